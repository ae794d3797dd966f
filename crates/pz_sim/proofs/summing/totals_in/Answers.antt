use Rattle.std.proofs.Common.{length, refl, arith}
use Rattle.std.proofs.lemmas.Option.{slice_get_read}
use Rattle.pz_rules.specs.pz_syntax.Classes.{ModelTree}
use Rattle.pz_tree.specs.declared.tree.Tree.{Tree}
use Rattle.pz_tree.specs.Trees.{IsFresh}
use Rattle.pz_sim.proofs.Replaced.{all_at}
use Rattle.pz_sim.proofs.Summed.{none_summed, one_summed, all_summed, count_first, count_kept}
use Rattle.pz_sim.proofs.summing.totals_in.Goals as goal

pub loop-number-init : goal.loop-number-init
loop-number-init c = record {
  count = count_first c.args.trees.now c.args.count c.in_ok-totals.totals c.requires.count c.in_ok-totals.ensures;
  totals = λ m fresh. none_summed m c.args.trees.now c.args.count c.in_ok-totals.totals c.requires.count c.in_ok-totals.ensures;
}

pub total_in-requires : goal.total_in-requires
total_in-requires c = record {
  fresh = all_at (λ (t : Tree). ∥ ((m : ModelTree) × IsFresh m t) ∥₁) c.args.trees.now c.loop-number.number c.index-trees-number.result c.requires.fresh
      (slice_get_read c.args.trees.now (length c.args.trees.now) c.loop-number.number c.index-trees-number.result refl c.loop-number-test.true c.index-trees-number.is);
}

pub loop-number-preserved : goal.loop-number-preserved
loop-number-preserved c = record {
  count = count_kept c.args.trees.now c.loop-number.number c.total_in.result c.loop-number.totals c.set.new.self c.loop-number.invariant.count c.in_ok-set.ensures.ok;
  totals = λ m fresh.
      one_summed m c.args.trees.now c.loop-number.number c.index-trees-number.result c.total_in.result c.loop-number.totals c.set.new.self
      (slice_get_read c.args.trees.now (length c.args.trees.now) c.loop-number.number c.index-trees-number.result refl c.loop-number-test.true c.index-trees-number.is)
      (c.loop-number.invariant.totals m fresh) fresh (λ f. c.total_in.ensures.total m f) c.in_ok-set.ensures.ok;
}

pub returns : goal.returns
returns c = record { totals = λ m fresh. all_summed m c.args.trees.now c.loop-number.number c.loop-number.totals (omega (arith, c.loop-number-test.false)) (c.loop-number.invariant.totals m fresh) }
