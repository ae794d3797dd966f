-- What is said of a text that is to be laid out.
use Rattle.std.specs.Prelude.{◌≡◌, ℕ, List}
use Rattle.pz_run_lines.specs.pz_run_reading.declared.refusal.Refusal.{Refusal}
use Rattle.pz_run_lines.specs.pz_run_reading.Openings.{IsRefusedToOpen}
use Rattle.pz_run_output.specs.declared.status.Status.{Status}
use Rattle.pz_run_output.specs.declared.status.Status.TheVariants.{ModelRefused}
use Rattle.pz_run_output.specs.Output.{PrintsLayout}

-- where the text is refused, this is the status of that
pub record PrintsFormat (text bytes : List ℕ) (status : Status) : Type 0 where
  pub prints : PrintsLayout text bytes status
  pub refused : (r : Refusal) → IsRefusedToOpen text r → status ≡ ModelRefused
