use Rattle.std.proofs.Common.{◌≡◌, Result, Ok, Err, length, refl, subst, arith}
use Rattle.std.specs.Prelude.{⊤, OnOk, OnErr, slice_set}
use Rattle.std.proofs.Math.Logic.{∥∥₁_map}
use Rattle.pz_rules.specs.pz_offer.declared.trouble.Trouble.{Trouble}
use Rattle.pz_rules.specs.declared.action.Action.TheVariants.{Internal}
use Rattle.pz_tree.specs.Deeds.{CanAct}
use Rattle.pz_tree.specs.declared.tree.Tree.{Tree}
use Rattle.pz_sim.specs.Costs.{ActsSoon, acts_in, with_end_in}
use Rattle.pz_sim.specs.devices.Acting.{model_at, setting_at}
use Rattle.pz_sim.specs.devices.Holding.{AreTrees}
use Rattle.pz_sim.proofs.Renewed.{trees_told, alone_tells, alone_within, alone_told, next_moved}
use Rattle.pz_sim.proofs.Counted.{same_number}
use Rattle.pz_sim.proofs.Soon.{soon_moved}
use Rattle.pz_sim.proofs.Untouched.{asks_few}
use Rattle.pz_sim.proofs.acting.act_alone.Goals as goal

pub act_at-requires-clause-trees : goal.act_at-requires-clause-trees
act_at-requires-clause-trees g c = trees_told (setting_at c.args.scene) c.args.scene.clock c.args.trees.now c.args.totals.now c.args.pairs.now CanAct c.args.at.now c.requires.told c.requires.can

pub renew-requires-clause-can : goal.renew-requires-clause-can
renew-requires-clause-can g c =
    alone_tells (setting_at c.args.scene) c.args.scene.clock c.args.trees.now c.args.totals.now c.args.pairs.now CanAct c.args.at.now c.requires.told c.requires.can c.act_at.new.trees
    (subst (λ (r : Result ⊤ Trouble). OnOk r ((tree : Tree) × (c.act_at.new.trees ≡ slice_set c.args.trees.now c.args.at.now.process tree))) c.in-Ok.is c.in_ok-left.ensures.others)
    (subst (λ (r : Result ⊤ Trouble). OnOk r (∥ AreTrees (setting_at c.args.scene) c.args.scene.clock c.act_at.new.trees ∥₁)) c.in-Ok.is c.in_ok-left.ensures.after)

pub renew-requires-clause-within : goal.renew-requires-clause-within
renew-requires-clause-within g c =
    alone_within (setting_at c.args.scene) c.args.scene.clock c.args.trees.now c.args.totals.now c.args.pairs.now CanAct c.args.at.now c.requires.told c.requires.can c.act_at.new.trees
    (subst (λ (r : Result ⊤ Trouble). OnOk r ((tree : Tree) × (c.act_at.new.trees ≡ slice_set c.args.trees.now c.args.at.now.process tree))) c.in-Ok.is c.in_ok-left.ensures.others)
    (subst (λ (r : Result ⊤ Trouble). OnOk r (∥ AreTrees (setting_at c.args.scene) c.args.scene.clock c.act_at.new.trees ∥₁)) c.in-Ok.is c.in_ok-left.ensures.after)

pub returns-in_ok-renew-in-Ok-clause-leads : goal.returns-in_ok-renew-in-Ok-clause-leads
returns-in_ok-renew-in-Ok-clause-leads g c kind pos =
    next_moved (setting_at c.args.scene) c.args.scene.clock c.args.trees.now c.args.trees.now c.act_at.new.trees c.renew.new.trees (Internal c.args.at.now kind pos) c.in_ok-left.left (Ok c.in-Ok.field-0)
    refl c.renew.ensures.trees c.in-Ok.is (c.in_ok-left.ensures.leads kind pos)

pub returns-in_ok-renew-in-Ok-clause-told : goal.returns-in_ok-renew-in-Ok-clause-told
returns-in_ok-renew-in-Ok-clause-told g c =
    alone_told (setting_at c.args.scene) c.args.scene.clock c.args.trees.now c.args.totals.now c.args.pairs.now CanAct c.args.at.now c.requires.told c.requires.can c.act_at.new.trees
    (subst (λ (r : Result ⊤ Trouble). OnOk r ((tree : Tree) × (c.act_at.new.trees ≡ slice_set c.args.trees.now c.args.at.now.process tree))) c.in-Ok.is c.in_ok-left.ensures.others)
    (subst (λ (r : Result ⊤ Trouble). OnOk r (∥ AreTrees (setting_at c.args.scene) c.args.scene.clock c.act_at.new.trees ∥₁)) c.in-Ok.is c.in_ok-left.ensures.after)
    c.renew.new.trees c.renew.new.totals c.renew.new.pairs c.renew.ensures.trees (∥∥₁_map c.requires.of_model (λ net. c.in_ok-renew-in-Ok.ensures.table net)) c.in_ok-renew-in-Ok.ensures.totals

pub returns-in_ok-renew-in-Ok-clause-ticks : goal.returns-in_ok-renew-in-Ok-clause-ticks
returns-in_ok-renew-in-Ok-clause-ticks g c kind pos =
    let a = Internal c.args.at.now kind pos in
    let m = model_at c.args.scene in
    let asked = asks_few (acts_in a) c.args.at.now.process (same_number c.args.at.now.process) c.renew.new.pairs.pairs in
    soon_moved m c.args.trees.now c.args.trees.now c.act_at.new.trees c.renew.new.trees a (length (with_end_in (acts_in a) c.renew.new.pairs.pairs)) c.args.steps.now c.args.steps.now c.act_at.new.steps c.renew.new.steps
    refl c.renew.ensures.trees refl (omega (arith, c.in_ok-renew-in-Ok.ensures.ticks, asked))
    (subst (λ (r : Result ⊤ Trouble). OnOk r (∥ ActsSoon m c.args.trees.now c.act_at.new.trees a 0 c.args.steps.now c.act_at.new.steps ∥₁)) c.in-Ok.is (c.in_ok-left.ensures.ticks kind pos))

pub returns-in-Err-clause-leads : goal.returns-in-Err-clause-leads
returns-in-Err-clause-leads g c kind pos =
    next_moved (setting_at c.args.scene) c.args.scene.clock c.args.trees.now c.args.trees.now c.act_at.new.trees c.act_at.new.trees (Internal c.args.at.now kind pos) c.in_ok-left.left (Err c.in-Err.trouble)
    refl refl c.in-Err.is (c.in_ok-left.ensures.leads kind pos)

pub returns-in-Err-clause-unchanged : goal.returns-in-Err-clause-unchanged
returns-in-Err-clause-unchanged g c =
    subst (λ (r : Result ⊤ Trouble). OnErr r (c.act_at.new.trees ≡ c.args.trees.now)) c.in-Err.is c.in_ok-left.ensures.unchanged
