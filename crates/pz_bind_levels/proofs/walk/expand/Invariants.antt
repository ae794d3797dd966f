use Rattle.std.proofs.Common.{◌+◌, ◌-◌, ◌*◌, length}
use Rattle.pz_bind_levels.specs.Places.{spots}
use Rattle.pz_bind_levels.specs.devices.Walking.{layouts_of, Goes}
use Rattle.pz_bind_levels.proofs.walk.expand.Given as goal

abbrev pub invariant-loop-current : goal.invariant-loop-current
invariant-loop-current l = Goes (layouts_of l.plans) l.system l.walk

abbrev pub decreases-loop-current : goal.decreases-loop-current
decreases-loop-current l = 2 * (length (spots (layouts_of l.plans) l.system) - (length l.walk.levels + length l.walk.processes)) + length l.walk.path.items
