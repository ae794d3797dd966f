-- What was said of a file that was not read.
use Rattle.std.proofs.Common.{◌≡◌, ◌⊎◌, ◌<◌, ℕ, List, true, false, Err, refl}
use Rattle.pz_io.specs.Outside.{FilesState, SinkState, lookup, LacksName, FilesFailedLast, Exceeds}
use Rattle.pz_io.specs.Outcomes.{is_fault}
use Rattle.pz_io.specs.declared.whole.ReadError.{ReadError}
use Rattle.pz_io.specs.declared.whole.ReadError.TheVariants.{NoMemory, Fault, TooLong}
use Rattle.pz_run_output.specs.declared.status.Status.{Status}
use Rattle.pz_run_output.specs.Files.{JobFile}
use Rattle.pz_run_output.specs.devices.Reading.{SaysUnread, FileOutcome, wanting, fault, long}

-- another error is no fault
pub not_fault : (A : Type 0) (e : ReadError) → (e ≡ Fault → ⊥) → is_fault {A = A} (Err e) ≡ false
not_fault A NoMemory other = refl
not_fault A Fault other = absurd (other refl)
not_fault A TooLong other = refl

module _ (file : JobFile) (P : List ℕ → List ℕ → Status → Type 0) (f g : FilesState) (before now : SinkState) (given : Status) where
  pub unread : (e : ReadError) → ((e ≡ Fault → ⊥) → g.faults ≡ f.faults) → (e ≡ Fault → FilesFailedLast f g ⊎ ((g.faults ≡ f.faults) × LacksName f file.name))
      → (e ≡ TooLong → file.limit < g.handed) → (e ≡ TooLong → f.told ≡ true → Exceeds (lookup f.held file.name) file.limit)
      → SaysUnread e file.name before now given → FileOutcome file P f g before now given
  unread NoMemory kept cause handed exceeds says = wanting (kept (λ is. cc)) says
  unread Fault kept cause handed exceeds says = fault (cause refl) says
  unread TooLong kept cause handed exceeds says = long (kept (λ is. cc)) (handed refl) (exceeds refl) says
