use Rattle.std.proofs.Common.{◌≡◌, ◌-◌, map, subst}
use Rattle.std.specs.Prelude.{slice_get}
use Rattle.pz_rules.specs.pz_classes_rules.Soundness.{IsSound}
use Rattle.pz_match.specs.Pairs.{taken, offered}
use Rattle.pz_sim_totals.specs.declared.total.Total.{Total}
use Rattle.pz_sim_totals.specs.Sums.{all}
use Rattle.pz_sim_laws.specs.Deciding.{offers_in}
use Rattle.pz_sim.specs.devices.Acting.{model_at, setting_at, config_at, communicated, reached}
use Rattle.pz_sim.proofs.Communicated.{pair_never, pair_there, pair_chosen, table_there}
use Rattle.pz_sim.proofs.Found.{chosen_leads, chosen_soon}
use Rattle.pz_sim.proofs.choosing.hand_over_kth.Goals as goal

pub kth-requires : goal.kth-requires
kth-requires g c = table_there (setting_at c.args.scene) c.args.scene.clock c.args.trees.now c.args.totals.now c.args.pairs.now c.requires.told

pub unreachable-requires : goal.unreachable-requires
unreachable-requires g c = pair_never (setting_at c.args.scene) c.args.scene.clock c.args.trees.now c.args.totals.now c.args.pairs.now c.requires.told c.args.k c.requires.past c.in_ok-sender.field-0 (subst (λ (total : Total). c.in_ok-sender.field-0 ≡ slice_get (map offered (taken c.args.pairs.now.pairs)) (c.args.k - total.summary.internal)) c.all-internal.ensures c.in_ok-sender.ensures) c.requires.below c.in_default.not-Some

pub hand_over-requires-clause-pair : goal.hand_over-requires-clause-pair
hand_over-requires-clause-pair g c = pair_there (setting_at c.args.scene) c.args.scene.clock c.args.trees.now c.args.totals.now c.args.pairs.now c.requires.told c.args.k c.requires.past c.in_ok-sender.field-0 (subst (λ (total : Total). c.in_ok-sender.field-0 ≡ slice_get (map offered (taken c.args.pairs.now.pairs)) (c.args.k - total.summary.internal)) c.all-internal.ensures c.in_ok-sender.ensures) c.in-Some.sender c.in-Some.receiver c.in-Some.is c.pairs_are_those_of_the_rules.ensures.couples c.wires_are_known.ensures.law (subst IsSound c.model-model.ensures.is c.model-model.ensures.sound)

pub returns-clause-leads : goal.returns-clause-leads
returns-clause-leads g c =
    chosen_leads (setting_at c.args.scene) (config_at c.args.scene c.args.trees.now) (offers_in (all c.args.totals.now) c.args.pairs.now.pairs) c.args.k (communicated c.in-Some.sender c.in-Some.receiver)
    (reached (model_at c.args.scene) c.args.scene.clock c.hand_over.new.trees) c.hand_over.result
    (pair_chosen (setting_at c.args.scene) c.args.scene.clock c.args.trees.now c.args.totals.now c.args.pairs.now c.requires.told c.args.k c.requires.past c.in_ok-sender.field-0 (subst (λ (total : Total). c.in_ok-sender.field-0 ≡ slice_get (map offered (taken c.args.pairs.now.pairs)) (c.args.k - total.summary.internal)) c.all-internal.ensures c.in_ok-sender.ensures) c.in-Some.sender c.in-Some.receiver c.in-Some.is c.offers_are_numbered.ensures.communications c.pairs_are_those_of_the_rules.ensures.couples c.wires_are_known.ensures.law (subst IsSound c.model-model.ensures.is c.model-model.ensures.sound))
    c.hand_over.ensures.leads

pub returns-clause-ticks : goal.returns-clause-ticks
returns-clause-ticks g c =
    chosen_soon (setting_at c.args.scene) c.args.scene.clock (offers_in (all c.args.totals.now) c.args.pairs.now.pairs) c.args.k c.args.trees.now c.hand_over.new.trees (communicated c.in-Some.sender c.in-Some.receiver)
    c.hand_over.new.pairs.pairs c.args.steps.now c.hand_over.new.steps c.hand_over.result
    (pair_chosen (setting_at c.args.scene) c.args.scene.clock c.args.trees.now c.args.totals.now c.args.pairs.now c.requires.told c.args.k c.requires.past c.in_ok-sender.field-0 (subst (λ (total : Total). c.in_ok-sender.field-0 ≡ slice_get (map offered (taken c.args.pairs.now.pairs)) (c.args.k - total.summary.internal)) c.all-internal.ensures c.in_ok-sender.ensures) c.in-Some.sender c.in-Some.receiver c.in-Some.is c.offers_are_numbered.ensures.communications c.pairs_are_those_of_the_rules.ensures.couples c.wires_are_known.ensures.law (subst IsSound c.model-model.ensures.is c.model-model.ensures.sound))
    c.hand_over.ensures.ticks
