use Rattle.std.proofs.Common.{◌≡◌, ◌<◌, ℕ, Some, slice_get}
use Rattle.pz_check_openings.specs.declared.outline.Outline.{Outline}
use Rattle.pz_check_openings.specs.devices.Settling.{value_of, Settles}
use Rattle.pz_check_openings.proofs.settled.are_settled.Given as goal

abbrev pub invariant-loop-method : goal.invariant-loop-method
invariant-loop-method l = (k : ℕ) (o : Outline) → k < l.method-index → slice_get l.methods k ≡ Some (Some o) → Settles (value_of l.names l.bounds) o
