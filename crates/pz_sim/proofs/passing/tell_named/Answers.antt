use Rattle.std.proofs.Common.{◌∙◌, get_or, refl, arith}
use Rattle.std.proofs.lemmas.Option.{slice_get-get_or}
use Rattle.pz_sim.specs.devices.Acting.{model_at}
use Rattle.pz_sim.proofs.Retold.{may_tell, one_told, asks_next, none_left}
use Rattle.pz_sim.proofs.passing.tell_named.Goals as goal

pub loop-number-init : goal.loop-number-init
loop-number-init g c = record { trees = refl; retold = c.requires.retold; ticks = λ among all. omega arith }

pub tell-requires-clause-can : goal.tell-requires-clause-can
tell-requires-clause-can g c =
    may_tell (model_at c.args.scene) c.args.scene.clock c.args.trees.now c.loop-number.trees c.loop-number.invariant.trees c.requires.asked c.loop-number.pairs c.args.named.now c.loop-number.number
    (get_or c.args.named.now c.loop-number.number 0) c.loop-number.invariant.retold (slice_get-get_or c.args.named.now c.loop-number.number 0 c.loop-number-test.true)

pub loop-number-preserved : goal.loop-number-preserved
loop-number-preserved g c = record {
  trees = c.in_ok-tell.ensures.trees ∙ c.loop-number.invariant.trees;
  retold =
      one_told (model_at c.args.scene) c.args.scene.clock c.args.trees.now c.loop-number.trees c.loop-number.invariant.trees c.requires.asked c.loop-number.pairs c.args.named.now c.loop-number.number
      (get_or c.args.named.now c.loop-number.number 0) c.loop-number.invariant.retold (slice_get-get_or c.args.named.now c.loop-number.number 0 c.loop-number-test.true)
      c.args.scene.net.now c.tell.new.pairs c.requires.of_model (λ net hs tree is heard table can. c.in_ok-tell.ensures.table net hs tree is heard table can);
  ticks = λ among all.
      let before = c.loop-number.invariant.ticks among all in
      let more =
      asks_next (model_at c.args.scene) c.args.scene.clock c.args.trees.now c.loop-number.trees c.loop-number.invariant.trees c.requires.asked c.loop-number.pairs c.args.named.now c.loop-number.number
      (get_or c.args.named.now c.loop-number.number 0) c.loop-number.invariant.retold (slice_get-get_or c.args.named.now c.loop-number.number 0 c.loop-number-test.true) among all c.tell.new.pairs c.in_ok-tell.ensures.others in
      omega (arith, before, more, c.in_ok-tell.ensures.ticks);
}

pub returns-clause-table : goal.returns-clause-table
returns-clause-table g c =
    none_left (model_at c.args.scene) c.args.scene.clock c.args.trees.now c.loop-number.pairs c.args.named.now c.loop-number.number c.requires.asked c.loop-number.invariant.retold (omega (arith, c.loop-number-test.false))

pub returns-clause-trees : goal.returns-clause-trees
returns-clause-trees g c = c.loop-number.invariant.trees

pub returns-clause-ticks : goal.returns-clause-ticks
returns-clause-ticks g c among all = c.loop-number.invariant.ticks among all
