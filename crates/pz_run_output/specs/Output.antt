-- What the program prints for a job and the files, and how it ends: first the model's size, then
-- whether it is refused, then the size of a trace, of a file of watches or of a script, then the run or what
-- else is said of the model. The model of a replay is asked for C23 and C24 once its trace was read.
use Rattle.std.specs.Prelude.{◌<◌, ◌≤◌, ℕ, List, length, Option, Some, None}
use Rattle.pz_io.specs.Outside.{Entries, lookup}
use Rattle.pz_bind.specs.pz_syntax.Classes.{ModelTree}
use Rattle.pz_bind.specs.pz_check_violations.declared.violation.Violation.{Violation}
use Rattle.pz_classes_openings.specs.OpeningRules.{Opens, IsOpeningViolation}
use Rattle.pz_trace.specs.declared.forms.Form.{Form}
use Rattle.pz_trace.specs.declared.forms.Form.TheVariants.{Three}
use Rattle.pz_trace.specs.Lines.{header}
use Rattle.pz_trace.specs.Forms.{HasHeader}
use Rattle.pz_words.specs.declared.jobs.Job.{Job}
use Rattle.pz_words.specs.declared.jobs.Job.TheVariants.{Run, Menu, Replay, Check, Make, Ring, Format, Watch, Drive}
use Rattle.pz_gen.specs.Ring.{model as ring_text}
use Rattle.pz_run_lines.specs.pz_run_reading.declared.refusal.Refusal.{Refusal}
use Rattle.pz_run_lines.specs.pz_run_reading.declared.refusal.Refusal.TheVariants.{Violates}
use Rattle.pz_run_lines.specs.pz_run_reading.Models.{IsModelOf}
use Rattle.pz_run_lines.specs.pz_run_reading.Refusals.{IsRefused}
use Rattle.pz_run_lines.specs.pz_run_reading.Openings.{IsOpenModelOf, IsRefusedToOpen}
use Rattle.pz_run_lines.specs.pz_run_reading.Sizes.{HasSize}
use Rattle.pz_run_formatting.specs.Layouts.{IsLayoutOf}
use Rattle.pz_run_lines.specs.Lines.{usage_line, read_fault_line, too_long_line, accepted_line, model_refused_line, watch_refused_line, script_refused_line}
use Rattle.pz_lines.specs.Identifiers.{is_identifier}
use Rattle.pz_watch.specs.Files.{NamedFormula, AreWatches, IsRefusedAt}
use Rattle.pz_env_closing.specs.pz_watch_points.EventPoints.{points_of}
use Rattle.pz_env_closing.specs.pz_env_script.declared.entry.Entry.{Entry}
use Rattle.pz_env_closing.specs.DrivenRuns.{driven_text}
use Rattle.pz_env_closing.specs.pz_run_playing.Playing.{Tells}
use Rattle.pz_env_closing.specs.pz_run_playing.Watched.{watched_text}
use Rattle.pz_env_closing.specs.pz_run_playing.pz_term_simulator.Simulations.{Simulation}
use Rattle.pz_run_replaying.specs.declared.replayed.Replayed.{Replayed}
use Rattle.pz_run_replaying.specs.Replays.{refusal_text, Replays}
use Rattle.pz_run_output.specs.declared.play.Play.{Play}
use Rattle.pz_run_output.specs.declared.play.Telling.TheVariants as telling
use Rattle.pz_run_output.specs.declared.status.Status.{Status}
use Rattle.pz_run_output.specs.declared.status.Status.TheVariants.{Done, Usage, ModelRefused, TraceRefused, TooLong, ReadFault, WatchRefused, ScriptRefused}
use Rattle.pz_run_output.specs.Files.{JobFile, model_file, trace_file, watch_file, script_file}
use Rattle.pz_run_output.specs.Plays.{play, judged_play, driven_play, telling_when, told_of, setting_with, setting_for, RunOf, driving_for, DrivenRunOf}
use Rattle.pz_run_output.specs.Scripts.{IsScriptFor, IsScriptRefused}
use Rattle.pz_run_output.specs.Editions.{HasNoHeader, IsOfSecondEdition, OpensFor}
use Rattle.pz_run_output.specs.Status.{status_of, replay_status, IsJudgedAs}

-- what is told of the run of a model, and the status of its ending
pub data PrintsRun (p : Play) (m : ModelTree) : List ℕ → Status → Type 0 where
  plays : (run : RunOf p m) (text : List ℕ) → Tells (setting_for m p) run.events run.end run.ending (told_of p.telling) text
      → PrintsRun p m text (status_of run.ending)

-- What is said of a trace on a model that violates none of C1 to C22. The first line of the trace tells by
-- which edition of the rules its run was made, and with which limits; where it tells no units, these are
-- those of the job.
pub data PrintsReplay (units : ℕ) (m : ModelTree) (trace : List ℕ) : List ℕ → Status → Type 0 where
  -- the model violates C23 or C24
  closed : (v : Violation) → IsOfSecondEdition trace → IsOpeningViolation m v → PrintsReplay units m trace (model_refused_line (Violates v)) ModelRefused
  -- the first line is no header: that of a run by the words is expected
  no_header : Opens m → HasNoHeader trace → PrintsReplay units m trace (refusal_text 1 (Some (header (Three units)))) TraceRefused
  -- the trace is held against the runs of the form that it tells
  replays : (form : Form) (text : List ℕ) (outcome : Replayed) (end : Simulation)
      → HasHeader form trace → OpensFor trace m → Replays (setting_with m form units) trace text outcome end
      → PrintsReplay units m trace text (replay_status outcome)

-- what is said of a file of watches and of the run that they judge
pub data PrintsJudged (p : Play) (m : ModelTree) (file : List ℕ) : List ℕ → Status → Type 0 where
  -- the file is no list of watches
  no_watches : (line : ℕ) → IsRefusedAt is_identifier file line → PrintsJudged p m file (watch_refused_line line) WatchRefused
  judges : (ws : List NamedFormula) (run : RunOf p m) (status : Status) → AreWatches is_identifier file ws
      → IsJudgedAs ws (points_of m run.events) run.ending status
      → PrintsJudged p m file (watched_text (setting_for m p) ws run.events run.end.clock run.ending) status

-- what is said of a file that is to hold a script, and of the run that it drives
pub data PrintsDriven (p : Play) (m : ModelTree) (file : List ℕ) : List ℕ → Status → Type 0 where
  -- the file is no script, or that cannot drive the system
  no_script : (line : ℕ) → IsScriptRefused m file line → PrintsDriven p m file (script_refused_line line) ScriptRefused
  drives : (script : List Entry) (run : DrivenRunOf p m script) → IsScriptFor m file script
      → PrintsDriven p m file (driven_text (driving_for m script p) run.events run.end.system.clock run.ending) (status_of run.ending)

-- how large the system of a model is
pub data PrintsSize (m : ModelTree) : List ℕ → Status → Type 0 where
  accepts : (processes wires : ℕ) → HasSize m processes wires → PrintsSize m (accepted_line processes wires) Done

-- the text of the model of a ring with so many stations
pub data PrintsRing (n : ℕ) : List ℕ → Status → Type 0 where
  makes : PrintsRing n (ring_text n) Done

-- of a text: why it is refused, or what this is of its model, which opens
pub data PrintsModel (P : ModelTree → List ℕ → Status → Type 0) (text : List ℕ) : List ℕ → Status → Type 0 where
  refuses : (r : Refusal) → IsRefusedToOpen text r → PrintsModel P text (model_refused_line r) ModelRefused
  of_model : (m : ModelTree) (bytes : List ℕ) (status : Status) → IsOpenModelOf text m → P m bytes status → PrintsModel P text bytes status

-- of a text: the layout of its tokens and comments, if it is that of a model that opens; if not, why it is
-- refused
pub data PrintsLayout (text : List ℕ) : List ℕ → Status → Type 0 where
  opens_not : (r : Refusal) → IsRefusedToOpen text r → PrintsLayout text (model_refused_line r) ModelRefused
  lays_out : (bytes : List ℕ) → IsLayoutOf text bytes → PrintsLayout text bytes Done

-- of a file: that it is lacked or too long, or what this is of its text
pub data PrintsFile (file : JobFile) (P : List ℕ → List ℕ → Status → Type 0) : Option (List ℕ) → List ℕ → Status → Type 0 where
  lacks : PrintsFile file P None (read_fault_line file.name) ReadFault
  too_long : (text : List ℕ) → file.limit < length text → PrintsFile file P (Some text) (too_long_line file.name) TooLong
  reads : (text bytes : List ℕ) (status : Status) → length text ≤ file.limit → P text bytes status → PrintsFile file P (Some text) bytes status

abbrev pub PrintsModelFile : Entries → List ℕ → (ModelTree → List ℕ → Status → Type 0) → List ℕ → Status → Type 0
PrintsModelFile files name P = PrintsFile (model_file name) (PrintsModel P) (lookup files name)

-- of a model: what is said of the trace in a file
abbrev pub PrintsTraceFile : Entries → List ℕ → ℕ → ModelTree → List ℕ → Status → Type 0
PrintsTraceFile files name units m = PrintsFile (trace_file name) (PrintsReplay units m) (lookup files name)

-- of a model that opens: what is said of the watches in a file
abbrev pub PrintsWatchFile : Entries → List ℕ → Play → ModelTree → List ℕ → Status → Type 0
PrintsWatchFile files name p m = PrintsFile (watch_file name) (PrintsJudged p m) (lookup files name)

-- of a model that opens: what is said of the script in a file
abbrev pub PrintsScriptFile : Entries → List ℕ → Play → ModelTree → List ℕ → Status → Type 0
PrintsScriptFile files name p m = PrintsFile (script_file name) (PrintsDriven p m) (lookup files name)

-- of the text of the model of a replay: why it is refused, whatever the trace is, or what is said of that
pub data PrintsOnTrace (files : Entries) (name : List ℕ) (units : ℕ) (text : List ℕ) : List ℕ → Status → Type 0 where
  refuses_at_once : (r : Refusal) → IsRefused text r → PrintsOnTrace files name units text (model_refused_line r) ModelRefused
  goes_on : (m : ModelTree) (bytes : List ℕ) (status : Status) → IsModelOf text m → PrintsTraceFile files name units m bytes status
      → PrintsOnTrace files name units text bytes status

abbrev pub PrintsJob : Entries → Job → List ℕ → Status → Type 0
PrintsJob files (Run model choice limits summary) = PrintsModelFile files model (PrintsRun (play choice limits (telling_when summary)))
PrintsJob files (Menu model choice limits) = PrintsModelFile files model (PrintsRun (play choice limits telling.Menu))
PrintsJob files (Replay model trace units) = PrintsFile (model_file model) (PrintsOnTrace files trace units) (lookup files model)
PrintsJob files (Check model) = PrintsModelFile files model PrintsSize
PrintsJob files (Make n) = PrintsRing n
PrintsJob files (Ring n choice limits) = PrintsModel (PrintsRun (play choice limits telling.Summary)) (ring_text n)
PrintsJob files (Format model) = PrintsFile (model_file model) PrintsLayout (lookup files model)
PrintsJob files (Watch model watches choice limits) = PrintsModelFile files model (PrintsWatchFile files watches (judged_play choice limits))
PrintsJob files (Drive model script choice limits) = PrintsModelFile files model (PrintsScriptFile files script (driven_play choice limits))

-- a job, or that there is none
pub data Prints (files : Entries) : Option Job → List ℕ → Status → Type 0 where
  usage : Prints files None usage_line Usage
  does : (job : Job) (bytes : List ℕ) (status : Status) → PrintsJob files job bytes status → Prints files (Some job) bytes status
