-- Which simulator the program hands out: that of the run of the job, where the run ended, and none exactly where no run
-- has begun. A run begins once all that the job reads was read and nothing was refused; a replay, once the first line of its
-- trace was taken.
use Rattle.std.specs.Prelude.{◌≡◌, ◌<◌, ◌≤◌, ℕ, List, length, Option, Some, None, option_map}
use Rattle.pz_io.specs.Outside.{Entries, lookup}
use Rattle.pz_bind.specs.pz_syntax.Classes.{ModelTree}
use Rattle.pz_bind.specs.pz_check_violations.declared.violation.Violation.{Violation}
use Rattle.pz_run_output.specs.pz_classes_openings.OpeningRules.{IsOpeningViolation}
use Rattle.pz_run_output.specs.pz_trace.declared.forms.Form.{Form}
use Rattle.pz_run_output.specs.pz_trace.Forms.{HasHeader}
use Rattle.pz_words.specs.declared.jobs.Job.{Job}
use Rattle.pz_words.specs.declared.jobs.Job.TheVariants.{Run, Menu, Replay, Check, Make, Ring, Format, Watch, Drive}
use Rattle.pz_gen.specs.Ring.{model as ring_text}
use Rattle.pz_run_output.specs.pz_run_lines.pz_run_reading.Models.{IsModelOf}
use Rattle.pz_run_output.specs.pz_run_lines.pz_run_reading.Openings.{IsOpenModelOf}
use Rattle.pz_run_output.specs.pz_lines.Identifiers.{is_identifier}
use Rattle.pz_watch.specs.Files.{NamedFormula, AreWatches, IsRefusedAt}
use Rattle.pz_run_output.specs.pz_env_closing.pz_env_script.declared.entry.Entry.{Entry}
use Rattle.pz_run_output.specs.pz_env_closing.pz_env_tree.ClosedTree.{closed_tree}
use Rattle.pz_sim.specs.pz_term_simulator.Simulations.{Simulation, stands}
use Rattle.pz_sim.specs.Sims.{simulation_of}
use Rattle.pz_run_output.specs.pz_run_replaying.declared.replayed.Replayed.{Replayed}
use Rattle.pz_run_output.specs.pz_run_replaying.Replays.{Replays}
use Rattle.pz_run_output.specs.declared.status.Status.{Status}
use Rattle.pz_run_output.specs.declared.status.Status.TheVariants as status
use Rattle.pz_run.specs.declared.finish.Finish.{Finish}
use Rattle.pz_run_output.specs.declared.play.Play.{Play}
use Rattle.pz_run_output.specs.declared.play.Telling.TheVariants as telling
use Rattle.pz_run_output.specs.Files.{JobFile, model_file, trace_file, watch_file, script_file}
use Rattle.pz_run_output.specs.Plays.{play, judged_play, driven_play, telling_when, setting_with, setting_for, RunOf}
use Rattle.pz_run_output.specs.Scripts.{IsScriptFor, IsScriptRefused}
use Rattle.pz_run_output.specs.Editions.{HasNoHeader, IsOfSecondEdition, OpensFor}

-- of a run that is chosen: where it ended, after its last action or in the trouble of that
pub data RunHandsOut (p : Play) (m : ModelTree) : Option Simulation → Type 0 where
  where_it_ended : (run : RunOf p m) → RunHandsOut p m (Some (stands (setting_for m p) run.end run.standing))

-- of a run that watches judge
pub data WatchHandsOut (p : Play) (m : ModelTree) (file : List ℕ) : Option Simulation → Type 0 where
  no_watches : (line : ℕ) → IsRefusedAt is_identifier file line → WatchHandsOut p m file None
  judges : (ws : List NamedFormula) (left : Option Simulation) → AreWatches is_identifier file ws → RunHandsOut p m left → WatchHandsOut p m file left

-- of a run that a script drives: that of the closed model
pub data DriveHandsOut (p : Play) (m : ModelTree) (file : List ℕ) : Option Simulation → Type 0 where
  no_script : (line : ℕ) → IsScriptRefused m file line → DriveHandsOut p m file None
  drives : (script : List Entry) (left : Option Simulation) → IsScriptFor m file script → RunHandsOut p (closed_tree m script) left → DriveHandsOut p m file left

-- of a trace: where its run ended, or where the lines lead that were taken
pub data TraceHandsOut (units : ℕ) (m : ModelTree) (trace : List ℕ) : Option Simulation → Type 0 where
  closed : (v : Violation) → IsOfSecondEdition trace → IsOpeningViolation m v → TraceHandsOut units m trace None
  no_header : HasNoHeader trace → TraceHandsOut units m trace None
  replays : (form : Form) (text : List ℕ) (outcome : Replayed) (end : Simulation)
      → HasHeader form trace → OpensFor trace m → Replays (setting_with m form units) trace text outcome end → TraceHandsOut units m trace (Some end)

-- of a text, by which models it has
pub data ModelHandsOut (IsOf : List ℕ → ModelTree → Type 0) (Q : ModelTree → Option Simulation → Type 0) (text : List ℕ) : Option Simulation → Type 0 where
  refused : ((m : ModelTree) → IsOf text m → ⊥) → ModelHandsOut IsOf Q text None
  of_model : (m : ModelTree) (left : Option Simulation) → IsOf text m → Q m left → ModelHandsOut IsOf Q text left

-- of a file
pub data FileHandsOut (file : JobFile) (Q : List ℕ → Option Simulation → Type 0) : Option (List ℕ) → Option Simulation → Type 0 where
  lacks : FileHandsOut file Q None None
  too_long : (text : List ℕ) → file.limit < length text → FileHandsOut file Q (Some text) None
  reads : (text : List ℕ) (left : Option Simulation) → length text ≤ file.limit → Q text left → FileHandsOut file Q (Some text) left

-- of a model that opens, and of one that violates none of C1 to C22
abbrev pub OpenModelHandsOut : (ModelTree → Option Simulation → Type 0) → List ℕ → Option Simulation → Type 0
OpenModelHandsOut = ModelHandsOut IsOpenModelOf

abbrev pub OpenFileHandsOut : Entries → List ℕ → (ModelTree → Option Simulation → Type 0) → Option Simulation → Type 0
OpenFileHandsOut files name Q = FileHandsOut (model_file name) (OpenModelHandsOut Q) (lookup files name)

abbrev pub WatchFileHandsOut : Entries → List ℕ → Play → ModelTree → Option Simulation → Type 0
WatchFileHandsOut files name p m = FileHandsOut (watch_file name) (WatchHandsOut p m) (lookup files name)

abbrev pub ScriptFileHandsOut : Entries → List ℕ → Play → ModelTree → Option Simulation → Type 0
ScriptFileHandsOut files name p m = FileHandsOut (script_file name) (DriveHandsOut p m) (lookup files name)

abbrev pub TraceFileHandsOut : Entries → List ℕ → ℕ → ModelTree → Option Simulation → Type 0
TraceFileHandsOut files name units m = FileHandsOut (trace_file name) (TraceHandsOut units m) (lookup files name)

-- of a job that runs no model: none
abbrev pub Nothing : Option Simulation → Type 0
Nothing left = left ≡ None

abbrev pub JobHandsOut : Entries → Job → Option Simulation → Type 0
JobHandsOut files (Run model choice limits summary) = OpenFileHandsOut files model (RunHandsOut (play choice limits (telling_when summary)))
JobHandsOut files (Menu model choice limits) = OpenFileHandsOut files model (RunHandsOut (play choice limits telling.Menu))
JobHandsOut files (Replay model trace units) = FileHandsOut (model_file model) (ModelHandsOut IsModelOf (TraceFileHandsOut files trace units)) (lookup files model)
JobHandsOut files (Check model) = Nothing
JobHandsOut files (Make n) = Nothing
JobHandsOut files (Ring n choice limits) = OpenModelHandsOut (RunHandsOut (play choice limits telling.Summary)) (ring_text n)
JobHandsOut files (Format model) = Nothing
JobHandsOut files (Watch model watches choice limits) = OpenFileHandsOut files model (WatchFileHandsOut files watches (judged_play choice limits))
JobHandsOut files (Drive model script choice limits) = OpenFileHandsOut files model (ScriptFileHandsOut files script (driven_play choice limits))

-- of what the words ask for, a job or none
abbrev pub HandsOut : Entries → Option Job → Option Simulation → Type 0
HandsOut files None = Nothing
HandsOut files (Some job) = JobHandsOut files job

-- what the simulator that was handed out stands for
abbrev pub left_in : Finish → Option Simulation
left_in x = option_map simulation_of x.sim

-- with these statuses no run has begun
abbrev pub NeverBegun : Status → Type 0
NeverBegun status.Usage = Unit {0}
NeverBegun status.ModelRefused = Unit {0}
NeverBegun status.TooLong = Unit {0}
NeverBegun status.ReadFault = Unit {0}
NeverBegun status.WatchRefused = Unit {0}
NeverBegun status.ScriptRefused = Unit {0}
NeverBegun status.Done = ⊥
NeverBegun status.Deadlock = ⊥
NeverBegun status.ModelFault = ⊥
NeverBegun status.ChoiceRefused = ⊥
NeverBegun status.TraceRefused = ⊥
NeverBegun status.WatchBroken = ⊥
NeverBegun status.WriteFault = ⊥
NeverBegun status.NoMemory = ⊥
