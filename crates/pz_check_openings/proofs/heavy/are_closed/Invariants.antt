use Rattle.std.proofs.Common.{◌≡◌, ◌<◌, ℕ, Some, IsTrue, slice_get}
use Rattle.pz_check_openings.specs.declared.outline.Outline.{Outline}
use Rattle.pz_check_openings.specs.devices.Settling.{value_of}
use Rattle.pz_check_openings.specs.devices.Heavy.{is_closed}
use Rattle.pz_check_openings.proofs.heavy.are_closed.Given as goal

abbrev pub invariant-loop-method : goal.invariant-loop-method
invariant-loop-method l = (k : ℕ) (o : Outline) → k < l.method-index → slice_get l.methods k ≡ Some (Some o) → IsTrue (is_closed (value_of l.names l.bounds) (value_of l.names l.marks) o)
