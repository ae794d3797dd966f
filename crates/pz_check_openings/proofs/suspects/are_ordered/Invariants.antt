use Rattle.std.proofs.Common.{◌≡◌, ◌<◌, ℕ, Some, IsTrue, slice_get}
use Rattle.pz_check_openings.specs.declared.outline.Outline.{Outline}
use Rattle.pz_check_openings.specs.devices.Settling.{value_of}
use Rattle.pz_check_openings.specs.devices.Suspects.{is_ordered}
use Rattle.pz_check_openings.proofs.suspects.are_ordered.Given as goal

abbrev pub invariant-loop-method : goal.invariant-loop-method
invariant-loop-method l = (k : ℕ) (o : Outline) → k < l.method-index → slice_get l.methods k ≡ Some (Some o) → IsTrue (is_ordered (value_of l.names l.ranks) o)
