use Rattle.std.proofs.Common.{◌∙◌, refl, arith}
use Rattle.pz_bind.specs.pz_classes.CheckedView.{checked_model}
use Rattle.pz_sim.proofs.Spoken.{none_asked, all_asked, may_tell, one_told}
use Rattle.pz_sim.proofs.starting.tell_all.Goals as goal

pub loop-process-init : goal.loop-process-init
loop-process-init g c = record {
  trees = refl;
  table = none_asked (checked_model c.args.checked.now) c.args.clock c.args.trees.now 0 c.args.pairs.now refl c.requires.silent;
}

pub tell-requires-clause-can : goal.tell-requires-clause-can
tell-requires-clause-can g c =
    may_tell (checked_model c.args.checked.now) c.args.clock c.args.trees.now c.loop-process.trees c.loop-process.process c.args.count c.loop-process.pairs c.loop-process.invariant.trees (omega (arith, c.loop-process-test.true)) c.requires.count c.requires.asked c.loop-process.invariant.table

pub loop-process-preserved : goal.loop-process-preserved
loop-process-preserved g c = record {
  trees = c.in_ok-tell.ensures.trees ∙ c.loop-process.invariant.trees;
  table = one_told (checked_model c.args.checked.now) c.args.clock c.args.trees.now c.loop-process.trees c.loop-process.process c.args.count c.args.net.now c.loop-process.pairs c.tell.new.pairs c.loop-process.invariant.trees (omega (arith, c.loop-process-test.true)) c.requires.count
      c.requires.of_model c.requires.asked c.loop-process.invariant.table (λ net hs tree is heard table can. c.in_ok-tell.ensures.table net hs tree is heard table can);
}

pub returns-clause-table : goal.returns-clause-table
returns-clause-table g c =
    all_asked (checked_model c.args.checked.now) c.args.clock c.args.trees.now c.loop-process.process c.loop-process.pairs (omega (arith, c.requires.count, c.loop-process.auto.process-end, c.loop-process-test.false)) c.loop-process.invariant.table

pub returns-clause-trees : goal.returns-clause-trees
returns-clause-trees g c = c.loop-process.invariant.trees
