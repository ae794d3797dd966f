use Rattle.std.proofs.Common.{subst, ℕ, List}
use Rattle.pz_classes_code.specs.devices.Above.{ArePlaced}
use Rattle.pz_classes_code.proofs.names.NameList.new.Goals as goal

pub invariant_of-result : goal.invariant_of-result
invariant_of-result c = subst (λ (names : List (List ℕ)). ArePlaced names c.in_ok-places.places) c.as_slice.ensures c.in_ok-places.ensures
