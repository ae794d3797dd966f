-- What was done with the two files of a replay.
use Rattle.std.specs.Prelude.{◌≡◌, ◌≤◌, ℕ, List, [], ◌∷◌, ◌++◌, Bool, true, false, length, Option, Some}
use Rattle.pz_io.specs.Outside.{FilesState, SinkState, lookup, raised}
use Rattle.pz_bind.specs.pz_syntax.Classes.{ModelTree}
use Rattle.pz_trace.specs.pz_rules.Settings.{Setting}
use Rattle.pz_bind.specs.pz_check_violations.declared.violation.Violation.{Violation}
use Rattle.pz_classes_openings.specs.OpeningRules.{IsOpeningViolation}
use Rattle.pz_trace.specs.TraceText.{run_ending, IsTrace}
use Rattle.pz_trace.specs.declared.forms.Form.{Form}
use Rattle.pz_trace.specs.declared.forms.Form.TheVariants.{One}
use Rattle.pz_trace.specs.Forms.{HasHeader}
use Rattle.pz_trace.specs.Laws.{OneFormIsTold}
use Rattle.pz_run_replaying.specs.Replays.{TellsLines}
use Rattle.pz_run_lines.specs.pz_run_reading.declared.refusal.Refusal.{Refusal}
use Rattle.pz_run_lines.specs.pz_run_reading.Models.{IsModelOf}
use Rattle.pz_run_lines.specs.pz_run_reading.Refusals.{IsRefused}
use Rattle.pz_run_lines.specs.Lines.{model_refused_line}
use Rattle.pz_run_output.specs.declared.status.Status.{Status}
use Rattle.pz_run_output.specs.declared.status.Status.TheVariants.{ModelRefused, TraceRefused}
use Rattle.pz_run_output.specs.Files.{JobFile, model_file, trace_file}
use Rattle.pz_run_output.specs.Editions.{IsOfSecondEdition, OpensFor}
use Rattle.pz_run_output.specs.Status.{status_of}
use Rattle.pz_run_output.specs.Output.{PrintsReplay}
use Rattle.pz_run_output.specs.Promises.{TellsRun}
use Rattle.pz_run_output.specs.devices.Saying.{Answers}
use Rattle.pz_run_output.specs.devices.Reading.{ReadsFile}

-- each event of a run of a model that was read has a line of its own
abbrev pub ReadModelsTellLines : Type 0
ReadModelsTellLines = (text : List ℕ) (setting : Setting) → IsModelOf text setting.model → TellsLines setting

-- then a text tells of one ending alone
abbrev pub OneEnding : Type 0
OneEnding = (setting : Setting) (trace : List ℕ) → TellsLines setting → (x y : IsTrace setting trace) → status_of (run_ending x.ending) ≡ status_of (run_ending y.ending)

pub record TracesKnown : Type 0 where
  pub lines : ReadModelsTellLines
  pub one : OneEnding
  pub told : OneFormIsTold

-- why a text has no model
pub data PrintsRefusal (text : List ℕ) : List ℕ → Status → Type 0 where
  refused : (r : Refusal) → IsRefused text r → ((m : ModelTree) → IsModelOf text m → ⊥) → PrintsRefusal text (model_refused_line r) ModelRefused

-- the first edition is told, and not another or none
abbrev pub tells_first : Option Form → Bool
tells_first (Some One) = true
tells_first told = false

-- the first line tells one form
abbrev pub HasOneForm : List ℕ → Type 0
HasOneForm trace = (f g : Form) → HasHeader f trace → HasHeader g trace → f ≡ g

-- what is said of a trace, and the one status that goes with it
pub record PrintsTrace (units : ℕ) (m : ModelTree) (trace bytes : List ℕ) (status : Status) : Type 0 where
  pub prints : PrintsReplay units m trace bytes status
  pub one_form : HasOneForm trace
  pub only : OpensFor trace m → (tells : TellsRun m units trace) → status ≡ status_of (run_ending tells.run.ending)
  pub no_run : OpensFor trace m → (TellsRun m units trace → ⊥) → status ≡ TraceRefused
  pub closed : (v : Violation) → IsOfSecondEdition trace → IsOpeningViolation m v → status ≡ ModelRefused

-- the text has this model and no other, and is not refused
pub record IsOnlyModel (text : List ℕ) (m : ModelTree) : Type 0 where
  pub is_model : IsModelOf text m
  pub only : (n : ModelTree) → IsModelOf text n → m ≡ n
  pub unrefused : (r : Refusal) → IsRefused text r → ⊥

-- this is the text of the file, which was read to its end
pub record WasRead (file : JobFile) (text : List ℕ) (f g : FilesState) : Type 0 where
  pub opened : g.opens ≡ raised f.opens
  pub names : g.opened ≡ f.opened ++ (file.name ∷ [])
  pub told : g.told ≡ f.told
  pub held : g.held ≡ f.held
  pub faults : g.faults ≡ f.faults
  pub short : length text ≤ file.limit
  pub content : f.told ≡ true → lookup f.held file.name ≡ Some text

module _ (name : List ℕ) (units : ℕ) (f g : FilesState) (before now : SinkState) (given : Status) where
  -- once the model's text was read: why it has no model was said, or the trace was read
  pub data ReplaysText (text : List ℕ) : Type 0 where
    refuses : g ≡ f → Answers (PrintsRefusal text) before now given → ReplaysText text
    goes_on : (m : ModelTree) → IsOnlyModel text m → ReadsFile (trace_file name) (PrintsTrace units m) f g before now given → ReplaysText text

-- from the model's file on
pub data ReplaysFiles (model name : List ℕ) (units : ℕ) (f g : FilesState) (before now : SinkState) (given : Status) : Type 0 where
  no_model : ReadsFile (model_file model) PrintsRefusal f g before now given → ReplaysFiles model name units f g before now given
  reads_on : (mid : FilesState) (text : List ℕ) (m : ModelTree) → WasRead (model_file model) text f mid → IsOnlyModel text m
      → ReadsFile (trace_file name) (PrintsTrace units m) mid g before now given → ReplaysFiles model name units f g before now given
