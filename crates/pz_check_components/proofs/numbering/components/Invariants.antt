use Rattle.pz_check_components.specs.devices.Walking.{walk_view, left}
use Rattle.pz_check_components.specs.devices.IsWalk.{IsWalk}
use Rattle.pz_check_components.proofs.numbering.components.Given as goal

abbrev pub invariant-loop-walk : goal.invariant-loop-walk
invariant-loop-walk l = IsWalk l.edges (walk_view l.walk)

abbrev pub decreases-loop-walk : goal.decreases-loop-walk
decreases-loop-walk l = left l.edges (walk_view l.walk)
