use Rattle.std.proofs.Common.{◌≡◌, drop}
use Rattle.pz_check_components.specs.devices.Walking.{done_all}
use Rattle.pz_check_components.proofs.walk.mark_done.Given as goal

abbrev pub invariant-loop-vertex : goal.invariant-loop-vertex
invariant-loop-vertex l = done_all l.states.items (drop l.vertex-index l.vertices) l.number ≡ done_all l.initial.states.items l.vertices l.number
