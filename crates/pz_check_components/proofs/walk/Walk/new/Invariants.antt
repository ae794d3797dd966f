use Rattle.std.proofs.Common.{◌≡◌}
use Rattle.pz_check_components.specs.devices.Walking.{below, unseen}
use Rattle.pz_check_components.proofs.walk.Walk.new.Given as goal

abbrev pub invariant-loop-vertex : goal.invariant-loop-vertex
invariant-loop-vertex l = record {
  states : l.states.items ≡ unseen l.vertex;
  pending : l.pending.items ≡ below l.vertex;
}
