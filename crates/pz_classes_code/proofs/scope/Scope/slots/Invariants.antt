use Rattle.std.proofs.Common.{◌≡◌, take}
use Rattle.pz_classes_code.specs.Resolution.{slots_of}
use Rattle.pz_classes_code.specs.ScopeView.{scope_view}
use Rattle.pz_classes_code.proofs.scope.Scope.slots.Given as goal

abbrev pub invariant-loop-id : goal.invariant-loop-id
invariant-loop-id l = l.slots ≡ slots_of (scope_view l.self) (take l.id-index l.ids)
