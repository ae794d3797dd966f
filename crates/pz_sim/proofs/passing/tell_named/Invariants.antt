use Rattle.std.proofs.Common.{◌≡◌, ◌≤◌, ◌+◌, ℕ, Bool, true, length}
use Rattle.std.specs.Prelude.{All}
use Rattle.pz_sim.specs.devices.Acting.{model_at}
use Rattle.pz_sim.specs.Costs.{with_end_in}
use Rattle.pz_sim.specs.devices.Passing.{AreRetold}
use Rattle.pz_sim.proofs.passing.tell_named.Given as goal

abbrev pub invariant-loop-number : goal.invariant-loop-number
invariant-loop-number g l = record {
  trees : l.trees ≡ l.initial.trees;
  retold : ∥ AreRetold (model_at l.scene) l.initial.trees l.pairs l.named l.number ∥₁;
  ticks : (among : ℕ → Bool) → All (λ i. among i ≡ true) l.named → l.steps ≤ l.initial.steps + length (with_end_in among l.pairs.pairs);
}
