use Rattle.std.proofs.Common.{Result, Ok, refl, subst}
use Rattle.std.specs.Prelude.{⊤, OnOk}
use Rattle.pz_rules.specs.pz_classes_rules.Soundness.{IsSound}
use Rattle.pz_rules.specs.pz_offer.declared.trouble.Trouble.{Trouble}
use Rattle.pz_rules.specs.Messages.{Takes}
use Rattle.pz_tree.specs.Deeds.{CanReceive}
use Rattle.pz_sim.specs.devices.Acting.{model_at, setting_at, HasActed, HasActedSoon}
use Rattle.pz_sim.proofs.Acted.{stays_then}
use Rattle.pz_sim.proofs.Exchanged.{may_receive, may_send_then, second_fails, leads_all, after_all, others_all, stays_all, soon_all}
use Rattle.pz_sim.proofs.acting.exchange_tried.Goals as goal

pub act_in-requires-clause-may : goal.act_in-requires-clause-may
act_in-requires-clause-may g c =
    may_receive c.steps_lead_on.ensures.acts c.steps_lead_on.ensures.communication c.steps_lead_on.ensures.trouble c.one_next.ensures.action (setting_at c.args.scene) c.args.scene.clock c.args.trees.now c.args.sender.now.wire c.args.sender.now.end c.args.receiver.now c.args.sender.now.message c.args.sender.now.parcel c.requires.trees c.requires.pair
    c.args.trees.now refl

pub act_in-requires-in-Ok-clause-may : goal.act_in-requires-in-Ok-clause-may
act_in-requires-in-Ok-clause-may g c =
    may_send_then c.steps_lead_on.ensures.acts c.steps_lead_on.ensures.communication c.steps_lead_on.ensures.trouble c.one_next.ensures.action (setting_at c.args.scene) c.args.scene.clock c.args.trees.now c.args.sender.now.wire c.args.sender.now.end c.args.receiver.now c.args.sender.now.message c.args.sender.now.parcel c.requires.trees c.requires.pair
    c.act_in.new.trees (Ok c.in-Ok.field-0)
    (subst (HasActed (model_at c.args.scene) c.args.scene.clock (λ x. CanReceive) (λ x a f. Takes a f c.args.sender.now.parcel) c.args.receiver.now c.args.trees.now c.act_in.new.trees) c.in-Ok.is c.in_ok-taken.ensures.acts)

pub returns-in-Ok-clause-leads : goal.returns-in-Ok-clause-leads
returns-in-Ok-clause-leads g c =
    leads_all c.steps_lead_on.ensures.acts c.steps_lead_on.ensures.communication c.steps_lead_on.ensures.trouble c.one_next.ensures.action (setting_at c.args.scene) c.args.scene.clock c.args.trees.now c.args.sender.now.wire c.args.sender.now.end c.args.receiver.now c.args.sender.now.message c.args.sender.now.parcel c.requires.trees c.requires.pair
    c.requires.tried.0 c.in-Ok.field-0 c.act_in.new.trees c.act_in-in-Ok.new.trees c.requires.tried.1
    (subst (HasActed (model_at c.args.scene) c.args.scene.clock (λ x. CanReceive) (λ x a f. Takes a f c.args.sender.now.parcel) c.args.receiver.now c.args.trees.now c.act_in.new.trees) c.in-Ok.is c.in_ok-taken.ensures.acts)
    c.act_in-in-Ok.result c.act_in-in-Ok.ensures.acts

pub returns-in-Ok-clause-after : goal.returns-in-Ok-clause-after
returns-in-Ok-clause-after g c =
    after_all c.steps_lead_on.ensures.acts c.steps_lead_on.ensures.communication c.steps_lead_on.ensures.trouble c.one_next.ensures.action (setting_at c.args.scene) c.args.scene.clock c.args.trees.now c.args.sender.now.wire c.args.sender.now.end c.args.receiver.now c.args.sender.now.message c.args.sender.now.parcel c.requires.trees c.requires.pair
    c.requires.tried.0 c.in-Ok.field-0 c.act_in.new.trees c.act_in-in-Ok.new.trees c.requires.tried.1
    (subst (HasActed (model_at c.args.scene) c.args.scene.clock (λ x. CanReceive) (λ x a f. Takes a f c.args.sender.now.parcel) c.args.receiver.now c.args.trees.now c.act_in.new.trees) c.in-Ok.is c.in_ok-taken.ensures.acts)
    c.steps_lead_on.ensures.stay c.what_fits_goes_on.ensures.stays c.low_terms_stay.ensures.action (subst IsSound c.model-model.ensures.is c.model-model.ensures.sound) c.act_in-in-Ok.result c.act_in-in-Ok.ensures.acts

pub returns-in-Ok-clause-others : goal.returns-in-Ok-clause-others
returns-in-Ok-clause-others g c =
    others_all c.steps_lead_on.ensures.acts c.steps_lead_on.ensures.communication c.steps_lead_on.ensures.trouble c.one_next.ensures.action (setting_at c.args.scene) c.args.scene.clock c.args.trees.now c.args.sender.now.wire c.args.sender.now.end c.args.receiver.now c.args.sender.now.message c.args.sender.now.parcel c.requires.trees c.requires.pair
    c.requires.tried.0 c.in-Ok.field-0 c.act_in.new.trees c.act_in-in-Ok.new.trees c.requires.tried.1
    (subst (HasActed (model_at c.args.scene) c.args.scene.clock (λ x. CanReceive) (λ x a f. Takes a f c.args.sender.now.parcel) c.args.receiver.now c.args.trees.now c.act_in.new.trees) c.in-Ok.is c.in_ok-taken.ensures.acts)
    c.act_in-in-Ok.result c.act_in-in-Ok.ensures.acts

pub returns-in-Ok-clause-unchanged : goal.returns-in-Ok-clause-unchanged
returns-in-Ok-clause-unchanged g c =
    stays_all c.steps_lead_on.ensures.acts c.steps_lead_on.ensures.communication c.steps_lead_on.ensures.trouble c.one_next.ensures.action (setting_at c.args.scene) c.args.scene.clock c.args.trees.now c.args.sender.now.wire c.args.sender.now.end c.args.receiver.now c.args.sender.now.message c.args.sender.now.parcel c.requires.trees c.requires.pair
    c.requires.tried.0 c.in-Ok.field-0 c.act_in.new.trees c.act_in-in-Ok.new.trees c.requires.tried.1
    (subst (HasActed (model_at c.args.scene) c.args.scene.clock (λ x. CanReceive) (λ x a f. Takes a f c.args.sender.now.parcel) c.args.receiver.now c.args.trees.now c.act_in.new.trees) c.in-Ok.is c.in_ok-taken.ensures.acts)
    c.act_in-in-Ok.result c.act_in-in-Ok.ensures.acts

pub returns-in-Ok-clause-ticks : goal.returns-in-Ok-clause-ticks
returns-in-Ok-clause-ticks g c begun first =
    let m = model_at c.args.scene in
    let s = c.args.sender.now in
    let r = c.args.receiver.now in
    soon_all c.steps_lead_on.ensures.acts c.steps_lead_on.ensures.communication c.steps_lead_on.ensures.trouble c.one_next.ensures.action (setting_at c.args.scene) c.args.scene.clock c.args.trees.now s.wire s.end r s.message s.parcel c.requires.trees c.requires.pair
    c.requires.tried.0 c.in-Ok.field-0 c.act_in.new.trees c.act_in-in-Ok.new.trees c.requires.tried.1
    (subst (HasActed m c.args.scene.clock (λ x. CanReceive) (λ x a f. Takes a f s.parcel) r c.args.trees.now c.act_in.new.trees) c.in-Ok.is c.in_ok-taken.ensures.acts)
    begun c.args.steps.now c.act_in.new.steps c.act_in-in-Ok.new.steps first
    (λ t u t_is u_is x may. subst (λ (left : Result ⊤ Trouble). OnOk left (∥ HasActedSoon m (λ a f. Takes a f s.parcel) t u r.place c.args.steps.now c.act_in.new.steps ∥₁)) c.in-Ok.is
    (c.in_ok-taken.ensures.ticks t u t_is u_is x may))
    c.act_in-in-Ok.result c.act_in-in-Ok.ensures.acts (λ t u t_is u_is x may. c.act_in-in-Ok.ensures.ticks t u t_is u_is x may)

pub returns-in-Err-clause-leads : goal.returns-in-Err-clause-leads
returns-in-Err-clause-leads g c =
    second_fails c.steps_lead_on.ensures.acts c.steps_lead_on.ensures.communication c.steps_lead_on.ensures.trouble c.one_next.ensures.action (setting_at c.args.scene) c.args.scene.clock c.args.trees.now c.args.sender.now.wire c.args.sender.now.end c.args.receiver.now c.args.sender.now.message c.args.sender.now.parcel c.requires.trees c.requires.pair
    c.requires.tried.0 c.in-Err.trouble c.act_in.new.trees c.requires.tried.1
    (subst (HasActed (model_at c.args.scene) c.args.scene.clock (λ x. CanReceive) (λ x a f. Takes a f c.args.sender.now.parcel) c.args.receiver.now c.args.trees.now c.act_in.new.trees) c.in-Err.is c.in_ok-taken.ensures.acts)

pub returns-in-Err-clause-unchanged : goal.returns-in-Err-clause-unchanged
returns-in-Err-clause-unchanged g c =
    stays_then (model_at c.args.scene) c.args.scene.clock (λ x. CanReceive) (λ x a f. Takes a f c.args.sender.now.parcel) c.args.receiver.now c.args.trees.now c.act_in.new.trees c.in-Err.trouble
    (subst (HasActed (model_at c.args.scene) c.args.scene.clock (λ x. CanReceive) (λ x a f. Takes a f c.args.sender.now.parcel) c.args.receiver.now c.args.trees.now c.act_in.new.trees) c.in-Err.is c.in_ok-taken.ensures.acts)
