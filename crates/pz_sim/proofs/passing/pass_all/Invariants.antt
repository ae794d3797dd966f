use Rattle.std.proofs.Common.{◌≡◌, ◌≤◌, ◌+◌, ◌*◌, map, take}
use Rattle.pz_bind.specs.pz_classes.CheckedView.{checked_model}
use Rattle.pz_sim.specs.Costs.{visited_all}
use Rattle.pz_sim.specs.devices.Passing.{HavePassed, own_total}
use Rattle.pz_sim.proofs.passing.pass_all.Given as goal

abbrev pub invariant-loop-number : goal.invariant-loop-number
invariant-loop-number g l = record {
  passed : ∥ HavePassed (checked_model l.checked) l.clock l.number l.initial.trees l.trees ∥₁;
  totals : l.totals ≡ map (own_total (checked_model l.checked)) l.trees;
  ticks : l.steps ≤ l.initial.steps + 64 * visited_all (take l.number l.initial.trees) l.trees;
}
