use Rattle.std.proofs.Common.{◌≡◌, ◌++◌, length, take}
use Rattle.pz_bind_levels.specs.Layouts.{layout}
use Rattle.pz_bind_levels.specs.devices.Walking as spec
use Rattle.pz_bind_levels.specs.devices.Walking.{layouts_of}
use Rattle.pz_bind_levels.proofs.walk.own_wires.Given as goal

abbrev pub invariant-loop-channel : goal.invariant-loop-channel
invariant-loop-channel l = record {
  own : l.own ≡ spec.own_wires (spec.wire_above (layouts_of l.plans) l.levels l.standing) (length l.fn.wires) (take l.channel (layout (layouts_of l.plans) l.class).outer);
  new : l.wires ≡ l.fn.wires ++ spec.new_wires (spec.wire_above (layouts_of l.plans) l.levels l.standing) (length l.levels) 0 (take l.channel (layout (layouts_of l.plans) l.class).outer);
}
