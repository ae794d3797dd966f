use Rattle.std.proofs.Common.{[], subst}
use Rattle.std.proofs.Math.Logic.{∥∥₁_elim, ∥∥₁_map}
use Rattle.pz_rules.specs.pz_classes_rules.Soundness.{IsSound}
use Rattle.pz_rules.specs.InternalActions.{Performs}
use Rattle.pz_tree.specs.Deeds.{CanAct}
use Rattle.pz_sim.specs.devices.Acting.{model_at, setting_at}
use Rattle.pz_sim.proofs.Acted.{may_there, leads_alone, trees_alone, other_alone, stay_alone}
use Rattle.pz_sim.proofs.Soon.{alone_soon}
use Rattle.pz_sim.proofs.acting.act_at.Goals as goal

pub act_in-requires-clause-may : goal.act_in-requires-clause-may
act_in-requires-clause-may g c =
    ∥∥₁_elim c.requires.trees squash₁ (λ k. ∥∥₁_map c.requires.can (λ x. (record { values = []; objects = [] }, may_there (setting_at c.args.scene) c.args.scene.clock c.args.trees.now CanAct c.args.at.now k x)))

pub returns-clause-leads : goal.returns-clause-leads
returns-clause-leads g c kind pos =
    leads_alone c.steps_lead_on.ensures.acts c.steps_lead_on.ensures.action (setting_at c.args.scene) c.args.scene.clock c.args.trees.now c.act_in.new.trees c.args.at.now c.requires.trees c.requires.can kind pos c.act_in.result c.act_in.ensures.acts

pub returns-clause-after : goal.returns-clause-after
returns-clause-after g c =
    trees_alone c.steps_lead_on.ensures.acts c.steps_lead_on.ensures.action (setting_at c.args.scene) c.args.scene.clock c.args.trees.now c.act_in.new.trees c.args.at.now c.requires.trees c.requires.can c.steps_lead_on.ensures.stay
    c.what_fits_goes_on.ensures.stays c.low_terms_stay.ensures.action (subst IsSound c.model-model.ensures.is c.model-model.ensures.sound) c.act_in.result c.act_in.ensures.acts

pub returns-clause-others : goal.returns-clause-others
returns-clause-others g c =
    other_alone c.steps_lead_on.ensures.acts c.steps_lead_on.ensures.action (setting_at c.args.scene) c.args.scene.clock c.args.trees.now c.act_in.new.trees c.args.at.now c.act_in.result c.act_in.ensures.acts

pub returns-clause-unchanged : goal.returns-clause-unchanged
returns-clause-unchanged g c =
    stay_alone (model_at c.args.scene) c.args.scene.clock (λ parcel. CanAct) (λ parcel. Performs) c.args.at.now c.args.trees.now c.act_in.new.trees c.act_in.result c.act_in.ensures.acts

pub returns-clause-ticks : goal.returns-clause-ticks
returns-clause-ticks g c kind pos =
    alone_soon (setting_at c.args.scene) c.args.scene.clock c.args.trees.now c.act_in.new.trees c.args.at.now c.requires.trees c.requires.can kind pos c.args.steps.now c.act_in.new.steps c.act_in.result c.act_in.ensures.acts
    (λ t u t_is u_is parcel may. c.act_in.ensures.ticks t u t_is u_is parcel may)
