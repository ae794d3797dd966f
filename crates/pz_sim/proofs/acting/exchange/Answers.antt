use Rattle.std.proofs.Common.{◌∙◌, List, Ok, ap, sym, subst}
use Rattle.std.specs.Prelude.{◌≡◌, IfOk, OnOk, OnErr, slice_get, slice_set}
use Rattle.pz_rules.specs.Offers.{IsPair}
use Rattle.pz_rules.specs.Steps.{Next}
use Rattle.pz_tree.specs.declared.tree.Tree.{Tree}
use Rattle.pz_sim.specs.Costs.{ActsSoon}
use Rattle.pz_sim.specs.devices.Acting.{model_at, setting_at, config_at, HasTried, communicated, reached}
use Rattle.pz_sim.specs.devices.Holding.{AreTrees}
use Rattle.pz_sim.proofs.Exchanged.{may_send, first_fails}
use Rattle.pz_sim.proofs.acting.exchange.Goals as goal

pub try_send-requires-clause-may : goal.try_send-requires-clause-may
try_send-requires-clause-may g c =
    may_send c.steps_lead_on.ensures.acts c.steps_lead_on.ensures.communication c.steps_lead_on.ensures.trouble c.one_next.ensures.action (setting_at c.args.scene) c.args.scene.clock c.args.trees.now c.args.sender.now.wire c.args.sender.now.end c.args.receiver.now c.args.sender.now.message c.args.sender.now.parcel c.requires.trees c.requires.pair

-- the trial leaves the trees as they are

pub exchange_tried-requires-clause-trees : goal.exchange_tried-requires-clause-trees
exchange_tried-requires-clause-trees g c = subst (λ (ts : List Tree). ∥ AreTrees (setting_at c.args.scene) c.args.scene.clock ts ∥₁) (sym c.in_ok-tried.ensures.trees) c.requires.trees

pub exchange_tried-requires-clause-pair : goal.exchange_tried-requires-clause-pair
exchange_tried-requires-clause-pair g c =
    subst (λ (ts : List Tree). ∥ IsPair (setting_at c.args.scene) (config_at c.args.scene ts) c.args.sender.now.wire c.args.sender.now.end c.args.receiver.now c.args.sender.now.message c.args.sender.now.parcel ∥₁)
    (sym c.in_ok-tried.ensures.trees) c.requires.pair

pub exchange_tried-requires-clause-tried : goal.exchange_tried-requires-clause-tried
exchange_tried-requires-clause-tried g c = (
  c.in-Ok.field-0,
  subst (λ (ts : List Tree). HasTried (model_at c.args.scene) c.args.scene.clock c.args.sender.now.end ts (Ok c.in-Ok.field-0)) (sym c.in_ok-tried.ensures.trees)
      (subst (HasTried (model_at c.args.scene) c.args.scene.clock c.args.sender.now.end c.args.trees.now) c.in-Ok.is c.in_ok-tried.ensures.answers),
)

pub returns-in-Ok-clause-leads : goal.returns-in-Ok-clause-leads
returns-in-Ok-clause-leads g c =
    subst (λ (ts : List Tree). IfOk c.exchange_tried.result (λ left. ∥ Next (setting_at c.args.scene) (config_at c.args.scene ts) (communicated c.args.sender.now c.args.receiver.now)
    (reached (model_at c.args.scene) c.args.scene.clock c.exchange_tried.new.trees left) ∥₁)) c.in_ok-tried.ensures.trees c.exchange_tried.ensures.leads

pub returns-in-Ok-clause-others : goal.returns-in-Ok-clause-others
returns-in-Ok-clause-others g c =
    subst (λ (ts : List Tree). IfOk c.exchange_tried.result (λ left. OnOk left ((u v : Tree) × (c.exchange_tried.new.trees ≡ slice_set (slice_set ts c.args.receiver.now.process v) c.args.sender.now.end.process u))))
    c.in_ok-tried.ensures.trees c.exchange_tried.ensures.others

pub returns-in-Ok-clause-unchanged : goal.returns-in-Ok-clause-unchanged
returns-in-Ok-clause-unchanged g c =
    subst (λ (ts : List Tree). IfOk c.exchange_tried.result (λ left. OnErr left (c.exchange_tried.new.trees ≡ ts))) c.in_ok-tried.ensures.trees c.exchange_tried.ensures.unchanged

pub returns-in-Ok-clause-ticks : goal.returns-in-Ok-clause-ticks
returns-in-Ok-clause-ticks g c =
    let same = c.in_ok-tried.ensures.trees in
    subst (λ (ts : List Tree). IfOk c.exchange_tried.result (λ left. OnOk left
    (∥ ActsSoon (model_at c.args.scene) ts c.exchange_tried.new.trees (communicated c.args.sender.now c.args.receiver.now) 0 c.args.steps.now c.exchange_tried.new.steps ∥₁)))
    same
    (c.exchange_tried.ensures.ticks c.args.steps.now (λ t t_is x may.
    c.in_ok-tried.ensures.ticks t (ap (λ (ts : List Tree). slice_get ts c.args.sender.now.end.process) (sym same) ∙ t_is) x may))

pub returns-in-Err-clause-leads : goal.returns-in-Err-clause-leads
returns-in-Err-clause-leads g c =
    first_fails c.steps_lead_on.ensures.acts c.steps_lead_on.ensures.communication c.steps_lead_on.ensures.trouble c.one_next.ensures.action (setting_at c.args.scene) c.args.scene.clock c.args.trees.now c.args.sender.now.wire c.args.sender.now.end c.args.receiver.now c.args.sender.now.message c.args.sender.now.parcel c.requires.trees c.requires.pair
    c.in-Err.trouble
    (subst (HasTried (model_at c.args.scene) c.args.scene.clock c.args.sender.now.end c.args.trees.now) c.in-Err.is c.in_ok-tried.ensures.answers)
