use Rattle.std.proofs.Common.{refl}
use Rattle.pz_tree.specs.Deeds.{able, deed}
use Rattle.std.specs.Prelude.{IfOk, OnOk}
use Rattle.pz_tree.specs.declared.tree.Tree.{Tree}
use Rattle.pz_sim.specs.devices.Acting.{model_at, setting_at, MayAct, HasActedSoon}
use Rattle.pz_sim.proofs.Acted.{some_within, some_read, some_rounds, has_acted}
use Rattle.pz_sim.proofs.Soon.{as_read}
use Rattle.pz_sim.proofs.acting.act_in.Goals as goal

pub bounds-trees-at : goal.bounds-trees-at
bounds-trees-at g c = some_within (setting_at c.args.scene) c.args.scene.clock (able c.args.how) c.args.trees.now c.args.at.now c.requires.may

pub act_afresh-requires-clause-may : goal.act_afresh-requires-clause-may
act_afresh-requires-clause-may g c = some_read (setting_at c.args.scene) c.args.scene.clock (able c.args.how) c.args.trees.now c.args.at.now c.requires.may c.index-trees-at.result

pub act_afresh-requires-clause-rounds : goal.act_afresh-requires-clause-rounds
act_afresh-requires-clause-rounds g c = some_rounds (setting_at c.args.scene) c.args.scene.clock (able c.args.how) c.args.trees.now c.args.at.now c.requires.may c.index-trees-at.result c.requires.rounds

pub returns-clause-acts : goal.returns-clause-acts
returns-clause-acts g c =
    has_acted (setting_at c.args.scene) c.args.scene.clock (able c.args.how) c.args.trees.now c.args.at.now c.requires.may (deed c.args.how) c.index-trees-at.result c.act_afresh.new.tree _ refl c.act_afresh.result
    c.act_afresh.ensures.after c.act_afresh.ensures.leaves

pub returns-clause-ticks : goal.returns-clause-ticks
returns-clause-ticks g c t u t_is u_is parcel =
    let m = model_at c.args.scene in
    as_read c.args.trees.now c.args.at.now.process c.index-trees-at.result t u c.act_afresh.new.tree
    (λ (x y : Tree). MayAct m c.args.scene.clock (able c.args.how parcel) x c.args.at.now.place → IfOk c.act_afresh.result (λ left. OnOk left (∥ HasActedSoon m (deed c.args.how parcel) x y c.args.at.now.place c.args.steps.now c.act_afresh.new.steps ∥₁)))
    t_is u_is (λ may. c.act_afresh.ensures.ticks parcel may)
