-- What is said of the text of a model.
use Rattle.std.specs.Prelude.{◌≡◌, ℕ, List}
use Rattle.pz_io.specs.Outside.{SinkState}
use Rattle.pz_bind.specs.pz_syntax.Classes.{ModelTree}
use Rattle.pz_run_lines.specs.pz_run_reading.declared.read_error.ReadModelError.{ReadModelError}
use Rattle.pz_run_lines.specs.pz_run_reading.declared.read_error.ReadModelError.TheVariants.{NoMemory, Refused}
use Rattle.pz_run_lines.specs.pz_run_reading.declared.refusal.Refusal.{Refusal}
use Rattle.pz_run_lines.specs.pz_run_reading.Openings.{IsOpenModelOf, IsRefusedToOpen}
use Rattle.pz_run_lines.specs.Lines.{model_refused_line}
use Rattle.pz_run_output.specs.declared.play.Play.{Play}
use Rattle.pz_run_output.specs.declared.status.Status.{Status}
use Rattle.pz_run_output.specs.declared.status.Status.TheVariants.{ModelRefused}
use Rattle.pz_run_output.specs.Plays.{RunOf}
use Rattle.pz_run_output.specs.Status.{status_of}
use Rattle.pz_run_output.specs.Output.{PrintsRun, PrintsSize, PrintsModel}
use Rattle.pz_run_output.specs.devices.Saying.{Said, NothingWritten}

-- whichever run of whichever model of the text that is, this is the status of its ending
abbrev pub EndsOnlySo : Play → List ℕ → Status → Type 0
EndsOnlySo p text status = (m : ModelTree) → IsOpenModelOf text m → (run : RunOf p m) → status ≡ status_of run.ending

-- where the text is refused, this is the status of that
abbrev pub IsRefusedSo : List ℕ → Status → Type 0
IsRefusedSo text status = (r : Refusal) → IsRefusedToOpen text r → status ≡ ModelRefused

pub record PrintsPlay (p : Play) (text bytes : List ℕ) (status : Status) : Type 0 where
  pub prints : PrintsModel (PrintsRun p) text bytes status
  pub only : EndsOnlySo p text status
  pub refused : IsRefusedSo text status

pub record PrintsCheck (text bytes : List ℕ) (status : Status) : Type 0 where
  pub prints : PrintsModel PrintsSize text bytes status
  pub refused : IsRefusedSo text status

-- why there is no model was said
abbrev pub SaysRefusal : ReadModelError → SinkState → SinkState → Status → Type 0
SaysRefusal NoMemory before now given = NothingWritten before now given
SaysRefusal (Refused r) before now given = Said before now (model_refused_line r) ModelRefused given
