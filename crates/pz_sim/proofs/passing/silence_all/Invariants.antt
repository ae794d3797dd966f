use Rattle.std.proofs.Common.{◌≡◌}
use Rattle.pz_sim.specs.devices.Acting.{model_at}
use Rattle.pz_sim.specs.devices.Passing.{AreSilenced}
use Rattle.pz_sim.proofs.passing.silence_all.Given as goal

abbrev pub invariant-loop-process : goal.invariant-loop-process
invariant-loop-process g l = record {
  trees : l.trees ≡ l.initial.trees;
  silent : ∥ AreSilenced (model_at l.scene) l.scene.clock l.process l.initial.trees l.pairs l.named.items ∥₁;
  ticks : l.steps ≡ l.initial.steps;
}
