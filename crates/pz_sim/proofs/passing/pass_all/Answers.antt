use Rattle.std.proofs.Common.{◌≤◌, ◌+◌, ◌*◌, List, ◌≡◌, ℕ, length, subst, arith}
use Rattle.pz_bind.specs.pz_classes.CheckedView.{checked_model}
use Rattle.std.proofs.lemmas.List.{take_all}
use Rattle.pz_tree.specs.declared.tree.Tree.{Tree}
use Rattle.pz_sim.specs.Costs.{visited_all}
use Rattle.pz_sim.specs.devices.Passing.{HavePassed}
use Rattle.pz_sim.proofs.Passed.{none_passed}
use Rattle.pz_sim.proofs.Read.{next_may, next_own, next_passed, next_soon, totals_more}
use Rattle.pz_sim.proofs.passing.pass_all.Goals as goal

pub loop-number-init : goal.loop-number-init
loop-number-init g c = record {
  passed = ∣ none_passed (checked_model c.args.checked.now) c.args.clock c.args.trees.now ∣₁;
  totals = c.requires.totals;
  ticks = omega arith;
}

pub pass_tree-requires-clause-may : goal.pass_tree-requires-clause-may
pass_tree-requires-clause-may g c =
    next_may (checked_model c.args.checked.now) c.args.clock c.args.trees.now c.loop-number.trees c.loop-number.number c.index-trees-number.result
    (omega (arith, c.loop-number.auto.trees, c.loop-number-test.true)) c.requires.may c.loop-number.invariant.passed

pub pass_tree-requires-clause-own : goal.pass_tree-requires-clause-own
pass_tree-requires-clause-own g c =
    next_own (checked_model c.args.checked.now) c.args.clock c.args.trees.now c.loop-number.trees c.loop-number.number c.index-trees-number.result
    (omega (arith, c.loop-number.auto.trees, c.loop-number-test.true)) c.loop-number.totals c.loop-number.invariant.totals

pub loop-number-preserved : goal.loop-number-preserved
loop-number-preserved g c = record {
  passed =
      next_passed (checked_model c.args.checked.now) c.args.clock c.args.trees.now c.loop-number.trees c.loop-number.number c.index-trees-number.result
      (omega (arith, c.loop-number.auto.trees, c.loop-number-test.true)) c.pass_tree.new.tree c.loop-number.invariant.passed c.in_ok-pass_tree.ensures.passed;
  totals =
      totals_more (checked_model c.args.checked.now) c.args.clock c.args.trees.now c.loop-number.trees c.loop-number.number c.index-trees-number.result
      (omega (arith, c.loop-number.auto.trees, c.loop-number-test.true)) c.pass_tree.new.tree c.loop-number.totals c.pass_tree.new.totals c.loop-number.invariant.totals c.in_ok-pass_tree.ensures.total;
  ticks =
      next_soon (checked_model c.args.checked.now) c.args.clock c.args.trees.now c.loop-number.trees c.loop-number.number c.index-trees-number.result
      (omega (arith, c.loop-number.auto.trees, c.loop-number-test.true)) c.pass_tree.new.tree c.args.steps.now c.loop-number.steps c.pass_tree.new.steps c.loop-number.invariant.passed c.loop-number.invariant.ticks c.in_ok-pass_tree.ensures.ticks;
}

pub returns-clause-passed : goal.returns-clause-passed
returns-clause-passed g c =
    let done : c.loop-number.number ≡ length c.args.trees.now = omega (arith, c.loop-number.auto.number-end, c.loop-number-test.false) in
    subst (λ (n : ℕ). ∥ HavePassed (checked_model c.args.checked.now) c.args.clock n c.args.trees.now c.loop-number.trees ∥₁) done c.loop-number.invariant.passed

pub returns-clause-totals : goal.returns-clause-totals
returns-clause-totals g c = c.loop-number.invariant.totals

pub returns-clause-ticks : goal.returns-clause-ticks
returns-clause-ticks g c =
    let done : c.loop-number.number ≡ length c.args.trees.now = omega (arith, c.loop-number.auto.number-end, c.loop-number-test.false) in
    subst (λ (ts : List Tree). c.loop-number.steps ≤ c.args.steps.now + 64 * visited_all ts c.loop-number.trees) (take_all c.loop-number.number c.args.trees.now (omega (arith, done))) c.loop-number.invariant.ticks
