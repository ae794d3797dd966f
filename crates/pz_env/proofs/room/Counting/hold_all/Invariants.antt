use Rattle.std.proofs.Common.{◌≡◌, ◌++◌, drop}
use Rattle.pz_syntax.specs.ClassView.{model_view}
use Rattle.pz_env.specs.devices.Counting.{held}
use Rattle.pz_env.proofs.room.Counting.hold_all.Given as goal

abbrev pub invariant-loop-instance : goal.invariant-loop-instance
invariant-loop-instance l = record {
  left : l.self.left.items ++ held (model_view l.model) l.levels (drop l.instance-index l.instances) ≡ l.fn.self.left.items ++ held (model_view l.model) l.levels l.instances;
  processes : l.self.processes ≡ l.fn.self.processes;
  channels : l.self.channels ≡ l.fn.self.channels;
}
