-- What the top call promises, by parts: of files and of a sink at two moments, before and now. What the
-- words ask for is a job, or none.
use Rattle.std.specs.Prelude.{◌≡◌, ◌≢◌, ◌⊎◌, ◌<◌, ◌≤◌, ℕ, zero, suc, List, [], ◌∷◌, ◌++◌, true, length, Contains, slice_get, Option, Some, None}
use Rattle.pz_io.specs.Outside.{Entries, FilesState, SinkState, lookup, raised, Rose, FilesFailedLast, SinkFailedLast, Exceeds}
use Rattle.pz_io.specs.Writing.{TookAll, TookFront}
use Rattle.pz_bind.specs.pz_syntax.Classes.{ModelTree}
use Rattle.pz_trace.specs.pz_rules.Runs.{Ending}
use Rattle.pz_words.specs.declared.jobs.Choice.{Choice}
use Rattle.pz_words.specs.declared.jobs.RunLimits.{RunLimits}
use Rattle.pz_words.specs.declared.jobs.Job.{Job}
use Rattle.pz_words.specs.declared.jobs.Job.TheVariants.{Run, Menu, Replay, Check, Make, Ring, Format, Watch, Drive}
use Rattle.pz_bind.specs.pz_check_violations.declared.violation.Violation.{Violation}
use Rattle.pz_classes_openings.specs.OpeningRules as rules
use Rattle.pz_classes_openings.specs.OpeningRules.{IsOpeningViolation}
use Rattle.pz_trace.specs.declared.forms.Form.{Form}
use Rattle.pz_trace.specs.Forms.{HasHeader}
use Rattle.pz_trace.specs.TraceText.{run_ending, IsTrace}
use Rattle.pz_gen.specs.Ring.{model as ring_text}
use Rattle.pz_lines.specs.Identifiers.{is_identifier}
use Rattle.pz_watch.specs.Files.{NamedFormula, AreWatches, IsRefusedAt}
use Rattle.pz_watch.specs.Breaking.{AreBroken}
use Rattle.pz_env_closing.specs.pz_watch_points.EventPoints.{points_of}
use Rattle.pz_env_closing.specs.pz_env_script.declared.entry.Entry.{Entry}
use Rattle.pz_run_lines.specs.pz_run_reading.declared.refusal.Refusal.{Refusal}
use Rattle.pz_run_lines.specs.pz_run_reading.declared.refusal.Refusal.TheVariants.{Violates}
use Rattle.pz_run_lines.specs.pz_run_reading.Models.{IsModelOf}
use Rattle.pz_run_lines.specs.pz_run_reading.Refusals.{IsRefused}
use Rattle.pz_run_lines.specs.pz_run_reading.Openings.{IsOpenModelOf, IsRefusedToOpen}
use Rattle.pz_run_lines.specs.Lines.{read_fault_line}
use Rattle.pz_run_output.specs.Limits.{model_limit, trace_limit, watch_limit, script_limit}
use Rattle.pz_run_output.specs.declared.play.Play.{Play}
use Rattle.pz_run_output.specs.declared.status.Status.{Status}
use Rattle.pz_run_output.specs.declared.status.Status.TheVariants.{Done, Deadlock, Usage, ModelRefused, ModelFault, ChoiceRefused, TraceRefused, TooLong, ReadFault, WriteFault, NoMemory, WatchBroken, WatchRefused, ScriptRefused}
use Rattle.pz_run_output.specs.Files.{JobFile, files_of}
use Rattle.pz_run_output.specs.Plays.{play_of, judged_play, driven_play, setting_with, RunOf, DrivenRunOf}
use Rattle.pz_run_output.specs.Scripts.{IsScriptFor, IsScriptRefused}
use Rattle.pz_run_output.specs.Editions.{IsOfSecondEdition, OpensFor}
use Rattle.pz_run_output.specs.Status.{status_of}
use Rattle.pz_run_output.specs.Output.{Prints}

-- The call came through: no write failed, memory was not wanting, and the files did not fail.
pub record CameThrough (before now : FilesState) (status : Status) : Type 0 where
  pub written : status ≢ WriteFault
  pub ample : status ≢ NoMemory
  pub read : ¬ ((status ≡ ReadFault) × Rose before.faults now.faults)

-- the status is the one that goes with what is to be printed, which a sink that tells has taken since
pub record PrintsAll (a : Option Job) (held : Entries) (before now : SinkState) (status : Status) : Type 0 where
  pub bytes : List ℕ
  pub prints : Prints held a bytes status
  pub taken : before.told ≡ true → TookAll before now bytes

-- the bytes taken since are a front of what is to be printed
pub record PrintsSome (a : Option Job) (held : Entries) (before now : SinkState) : Type 0 where
  pub bytes : List ℕ
  pub status : Status
  pub prints : Prints held a bytes status
  pub front : TookFront before now bytes

-- a count that was raised so often
abbrev pub raised_by : ℕ → ℕ → ℕ
raised_by zero count = count
raised_by (suc n) count = raised_by n (raised count)

-- the names of the first so many files
abbrev pub first_names : ℕ → List JobFile → List (List ℕ)
first_names zero files = []
first_names (suc count) [] = []
first_names (suc count) (file ∷ files) = file.name ∷ first_names count files

-- The first so many of these files were opened, in their order, each once, and no other file.
pub record Opens (files : List JobFile) (count : ℕ) (before now : FilesState) : Type 0 where
  pub names : now.opened ≡ before.opened ++ first_names count files
  pub counted : now.opens ≡ raised_by count before.opens

-- So it is of the files of a job, and the first was opened for certain unless memory was wanting before.
-- Without a file nothing was opened.
pub record OpensFiles (files : List JobFile) (before now : FilesState) (status : Status) : Type 0 where
  pub count : ℕ
  pub within : count ≤ length files
  pub first : status ≢ NoMemory → 0 < length files → 0 < count
  pub opens : Opens files count before now

-- this file is the last that was opened
pub record OpensLast (files : List JobFile) (before now : FilesState) (file : JobFile) : Type 0 where
  pub place : ℕ
  pub is : slice_get files place ≡ Some file
  pub opens : Opens files (suc place) before now

-- The files failed: in their last call, so that nothing more was asked of them, and the status says it,
-- unless a write failed or memory was wanting.
pub record EndsReading (before now : FilesState) (status : Status) : Type 0 where
  pub last : FilesFailedLast before now
  pub said : status ≢ WriteFault → status ≢ NoMemory → status ≡ ReadFault

-- Of a call that wrote: no write failed; or one did, in the last call of the sink, so that nothing was
-- written after it.
pub record EndsWriting (before now : SinkState) (status : Status) : Type 0 where
  pub kept : status ≢ WriteFault → now.faults ≡ before.faults
  pub last : status ≡ WriteFault → SinkFailedLast before now

-- the bytes taken since are the line of a read fault, which names the last file that was opened
pub record SaysFault (files : List JobFile) (f g : FilesState) (before now : SinkState) : Type 0 where
  pub file : JobFile
  pub last : OpensLast files f g file
  pub taken : before.told ≡ true → TookAll before now (read_fault_line file.name)

-- the same of a front of that line
pub record SaysFaultFront (files : List JobFile) (f g : FilesState) (before now : SinkState) : Type 0 where
  pub file : JobFile
  pub last : OpensLast files f g file
  pub front : TookFront before now (read_fault_line file.name)

-- nothing was taken yet, or a front of what is to be printed, or a front of the line of a read
-- fault where the count of the files rose
abbrev pub PrintsFront : Option Job → FilesState → FilesState → SinkState → SinkState → Type 0
PrintsFront a f g before now =
    (now.taken ≡ before.taken)
    ⊎ (PrintsSome a f.held before now
    ⊎ (Rose f.faults g.faults × SaysFaultFront (files_of a) f g before now))

-- more bytes of the last file that was opened were handed out than its limit
abbrev pub IsPastLimit : List JobFile → FilesState → FilesState → Type 0
IsPastLimit files f g = (file : JobFile) × OpensLast files f g file × (file.limit < g.handed)

-- the files lack one that the job reads
abbrev pub Lacks : List JobFile → Entries → Type 0
Lacks files held = (file : JobFile) × Contains files file × (lookup held file.name ≡ None)

-- one that the job reads is longer than its limit
abbrev pub IsLonger : List JobFile → Entries → Type 0
IsLonger files held = (file : JobFile) × Contains files file × Exceeds (lookup held file.name) file.limit

-- the name of the model that a job reads
abbrev pub model_name : Job → Option (List ℕ)
model_name (Run model choice limits summary) = Some model
model_name (Menu model choice limits) = Some model
model_name (Replay model trace units) = Some model
model_name (Check model) = Some model
model_name (Make n) = None
model_name (Ring n choice limits) = None
model_name (Format model) = Some model
model_name (Watch model watches choice limits) = Some model
model_name (Drive model script choice limits) = Some model

-- how many stations the ring has that a job runs
abbrev pub stations_of : Job → Option ℕ
stations_of (Run model choice limits summary) = None
stations_of (Menu model choice limits) = None
stations_of (Replay model trace units) = None
stations_of (Check model) = None
stations_of (Make n) = None
stations_of (Ring n choice limits) = Some n
stations_of (Format model) = None
stations_of (Watch model watches choice limits) = None
stations_of (Drive model script choice limits) = None

-- the text of the model of a job: that of its file, within the limit, or of a ring
pub data IsTextFor (files : Entries) : Job → List ℕ → Type 0 where
  of_file : (job : Job) (name text : List ℕ) → model_name job ≡ Some name → lookup files name ≡ Some text → length text ≤ model_limit → IsTextFor files job text
  of_ring : (job : Job) (n : ℕ) → stations_of job ≡ Some n → IsTextFor files job (ring_text n)

-- the trace that a file has, within the limit
pub record IsTraceIn (files : Entries) (name trace : List ℕ) : Type 0 where
  pub held : lookup files name ≡ Some trace
  pub short : length trace ≤ trace_limit

-- what refuses the text of the model of a replay: C23 and C24 are asked where the trace was read, and is not
-- one of the first edition
pub data IsRefusedOnTrace (files : Entries) (name text : List ℕ) : Refusal → Type 0 where
  at_once : (r : Refusal) → IsRefused text r → IsRefusedOnTrace files name text r
  on_trace : (trace : List ℕ) (m : ModelTree) (v : Violation)
      → IsTraceIn files name trace → IsOfSecondEdition trace → IsModelOf text m → IsOpeningViolation m v → IsRefusedOnTrace files name text (Violates v)

-- what refuses that of a job
abbrev pub IsRefusedFor : Entries → Job → List ℕ → Refusal → Type 0
IsRefusedFor files (Replay model trace units) text r = IsRefusedOnTrace files trace text r
IsRefusedFor files job text r = IsRefusedToOpen text r

-- the text of the model is refused
pub record IsNoModel (a : Option Job) (files : Entries) : Type 0 where
  pub job : Job
  pub is_asked : a ≡ Some job
  pub text : List ℕ
  pub is_text : IsTextFor files job text
  pub refusal : Refusal
  pub is_refused : IsRefusedFor files job text refusal

-- the model opens before anything else is asked: not so where a trace is replayed
abbrev pub OpensAtOnce : Job → Type 0
OpensAtOnce (Replay model trace units) = ⊥
OpensAtOnce job = Unit {0}

-- the text of the model of a job is that of this model, which violates none of C1 to C22, and but for a replay
-- neither C23 nor C24
pub record HasModelText (a : Option Job) (files : Entries) : Type 0 where
  pub job : Job
  pub is_asked : a ≡ Some job
  pub text : List ℕ
  pub is_text : IsTextFor files job text
  pub model : ModelTree
  pub is_model : IsModelOf text model
  pub opens : OpensAtOnce job → rules.Opens model

-- the run of the model of this text that the choice and the limits of the job decide has this ending
pub record ChosenEnds (job : Job) (text : List ℕ) (ending : Ending) : Type 0 where
  pub play : Play
  pub is_play : play_of job ≡ Some play
  pub model : ModelTree
  pub is_model : IsOpenModelOf text model
  pub run : RunOf play model
  pub ends : run.ending ≡ ending

-- the trace of a job, which is a replay on the model of this text: that of its file, within the limit; by its
-- edition the model is sound
pub record HasTrace (files : Entries) (job : Job) (text : List ℕ) : Type 0 where
  pub model_word : List ℕ
  pub trace_word : List ℕ
  pub units : ℕ
  pub is_replay : job ≡ Replay model_word trace_word units
  pub trace : List ℕ
  pub is_trace : IsTraceIn files trace_word trace
  pub model : ModelTree
  pub is_model : IsModelOf text model
  pub opens : OpensFor trace model

-- a trace is the text of a run of this model, of the edition, depth and units that its first line tells, or
-- with these units where that tells none
pub record TellsRun (m : ModelTree) (units : ℕ) (trace : List ℕ) : Type 0 where
  pub form : Form
  pub is_told : HasHeader form trace
  pub run : IsTrace (setting_with m form units) trace

-- that run has this ending
pub record ToldEnds (files : Entries) (job : Job) (text : List ℕ) (ending : Ending) : Type 0 where
  pub replay : HasTrace files job text
  pub tells : TellsRun replay.model replay.units replay.trace
  pub ends : run_ending tells.run.ending ≡ ending

-- the watches of a job, on the model of this text: the file that is to hold them, within the limit
pub record HasWatches (files : Entries) (job : Job) (text : List ℕ) : Type 0 where
  pub model_word : List ℕ
  pub watch_word : List ℕ
  pub choice : Choice
  pub limits : RunLimits
  pub is_watch : job ≡ Watch model_word watch_word choice limits
  pub file : List ℕ
  pub held : lookup files watch_word ≡ Some file
  pub short : length file ≤ watch_limit
  pub model : ModelTree
  pub is_model : IsOpenModelOf text model

-- the run of that model which the job asks for, and the watches that judge it
pub record IsJudged (files : Entries) (job : Job) (text : List ℕ) : Type 0 where
  pub on : HasWatches files job text
  pub watches : List NamedFormula
  pub are_watches : AreWatches is_identifier on.file watches
  pub run : RunOf (judged_play on.choice on.limits) on.model

-- some watch is broken at some point of that run
abbrev pub HasBroken : (files : Entries) (job : Job) (text : List ℕ) → IsJudged files job text → Type 0
HasBroken files job text x = AreBroken x.watches (points_of x.on.model x.run.events)

-- that run has this ending, and where its status is Done, no watch is broken
pub record JudgedEnds (files : Entries) (job : Job) (text : List ℕ) (ending : Ending) : Type 0 where
  pub judged : IsJudged files job text
  pub ends : judged.run.ending ≡ ending
  pub kept : status_of ending ≡ Done → HasBroken files job text judged → ⊥

-- its status is Done, and some watch is broken
pub record BreaksWatch (files : Entries) (job : Job) (text : List ℕ) : Type 0 where
  pub judged : IsJudged files job text
  pub done : status_of judged.run.ending ≡ Done
  pub broken : HasBroken files job text judged

-- the file is no list of watches
pub record RefusesWatches (files : Entries) (job : Job) (text : List ℕ) : Type 0 where
  pub on : HasWatches files job text
  pub line : ℕ
  pub refused : IsRefusedAt is_identifier on.file line

-- the script of a job, on the model of this text: the file that is to hold it, within the limit
pub record HasScript (files : Entries) (job : Job) (text : List ℕ) : Type 0 where
  pub model_word : List ℕ
  pub script_word : List ℕ
  pub choice : Choice
  pub limits : RunLimits
  pub is_drive : job ≡ Drive model_word script_word choice limits
  pub file : List ℕ
  pub held : lookup files script_word ≡ Some file
  pub short : length file ≤ script_limit
  pub model : ModelTree
  pub is_model : IsOpenModelOf text model

-- the script of the file, which can drive the system of that model, and the run which the job asks for
pub record IsDriven (files : Entries) (job : Job) (text : List ℕ) : Type 0 where
  pub on : HasScript files job text
  pub script : List Entry
  pub is_script : IsScriptFor on.model on.file script
  pub run : DrivenRunOf (driven_play on.choice on.limits) on.model script

-- that run has this ending
pub record DrivenEnds (files : Entries) (job : Job) (text : List ℕ) (ending : Ending) : Type 0 where
  pub driven : IsDriven files job text
  pub ends : driven.run.ending ≡ ending

-- the file is no script, or that cannot drive the system
pub record RefusesScript (files : Entries) (job : Job) (text : List ℕ) : Type 0 where
  pub on : HasScript files job text
  pub line : ℕ
  pub refused : IsScriptRefused on.model on.file line

-- the run of the model of this text, which the job asks for, has this ending
pub data HasEnding (files : Entries) (job : Job) (text : List ℕ) (ending : Ending) : Type 0 where
  of_choice : ChosenEnds job text ending → HasEnding files job text ending
  of_trace : ToldEnds files job text ending → HasEnding files job text ending
  of_watches : JudgedEnds files job text ending → HasEnding files job text ending
  of_script : DrivenEnds files job text ending → HasEnding files job text ending

-- the run that is asked for has this ending
pub record RunEnds (a : Option Job) (files : Entries) (ending : Ending) : Type 0 where
  pub job : Job
  pub is_asked : a ≡ Some job
  pub text : List ℕ
  pub is_text : IsTextFor files job text
  pub has_ending : HasEnding files job text ending

-- the trace of the job is the text of no such run of the model of this text
pub record TellsNoRun (files : Entries) (job : Job) (text : List ℕ) : Type 0 where
  pub replay : HasTrace files job text
  pub no_run : TellsRun replay.model replay.units replay.trace → ⊥

-- the trace that is to be replayed is the text of no run of its model
pub record IsNoTrace (a : Option Job) (files : Entries) : Type 0 where
  pub job : Job
  pub is_asked : a ≡ Some job
  pub text : List ℕ
  pub is_text : IsTextFor files job text
  pub tells_none : TellsNoRun files job text

-- a watch of the job is broken
pub record IsBrokenAt (a : Option Job) (files : Entries) : Type 0 where
  pub job : Job
  pub is_asked : a ≡ Some job
  pub text : List ℕ
  pub is_text : IsTextFor files job text
  pub breaks : BreaksWatch files job text

-- the file that is to hold the watches of the job is no list of watches
pub record IsNoWatches (a : Option Job) (files : Entries) : Type 0 where
  pub job : Job
  pub is_asked : a ≡ Some job
  pub text : List ℕ
  pub is_text : IsTextFor files job text
  pub refuses : RefusesWatches files job text

-- the file that is to hold the script of the job is none, or that cannot drive the system
pub record IsNoScript (a : Option Job) (files : Entries) : Type 0 where
  pub job : Job
  pub is_asked : a ≡ Some job
  pub text : List ℕ
  pub is_text : IsTextFor files job text
  pub refuses : RefusesScript files job text

-- it has a model, which is read or made
abbrev pub HasModel : Job → Type 0
HasModel (Make n) = ⊥
HasModel job = Unit {0}

-- it has a run, which is chosen, told by a trace, or driven by a script
abbrev pub HasRun : Job → Type 0
HasRun (Check model) = ⊥
HasRun (Make n) = ⊥
HasRun (Format model) = ⊥
HasRun job = Unit {0}

-- how a call can end, whatever the files and the sink do
pub data CanEnd : Option Job → Status → Type 0 where
  usage : CanEnd None Usage
  -- at the end of a run, or where it was stopped; or without a run
  done : (job : Job) → CanEnd (Some job) Done
  -- at other ends of runs
  deadlock : (job : Job) → HasRun job → CanEnd (Some job) Deadlock
  model_fault : (job : Job) → HasRun job → CanEnd (Some job) ModelFault
  choice_refused : (job : Job) (play : Play) → play_of job ≡ Some play → CanEnd (Some job) ChoiceRefused
  judged_refused : (model watches : List ℕ) (choice : Choice) (limits : RunLimits) → CanEnd (Some (Watch model watches choice limits)) ChoiceRefused
  watch_broken : (model watches : List ℕ) (choice : Choice) (limits : RunLimits) → CanEnd (Some (Watch model watches choice limits)) WatchBroken
  watch_refused : (model watches : List ℕ) (choice : Choice) (limits : RunLimits) → CanEnd (Some (Watch model watches choice limits)) WatchRefused
  driven_refused : (model script : List ℕ) (choice : Choice) (limits : RunLimits) → CanEnd (Some (Drive model script choice limits)) ChoiceRefused
  script_refused : (model script : List ℕ) (choice : Choice) (limits : RunLimits) → CanEnd (Some (Drive model script choice limits)) ScriptRefused
  trace_refused : (model trace : List ℕ) (units : ℕ) → CanEnd (Some (Replay model trace units)) TraceRefused
  model_refused : (job : Job) → HasModel job → CanEnd (Some job) ModelRefused
  too_long : (job : Job) (file : JobFile) → Contains (files_of (Some job)) file → CanEnd (Some job) TooLong
  read_fault : (job : Job) (file : JobFile) → Contains (files_of (Some job)) file → CanEnd (Some job) ReadFault
  write_fault : (a : Option Job) → CanEnd a WriteFault
  no_memory : (a : Option Job) → CanEnd a NoMemory
