use Rattle.std.proofs.Common.{subst, arith}
use Rattle.pz_rules.specs.pz_classes_rules.Soundness.{IsSound}
use Rattle.pz_rules.specs.declared.action.Action.TheVariants.{Internal}
use Rattle.pz_sim_totals.specs.Sums.{all}
use Rattle.pz_sim_laws.specs.Deciding.{offers_in}
use Rattle.pz_sim.specs.devices.Acting.{model_at, setting_at, config_at, reached}
use Rattle.pz_sim.proofs.Found.{chosen_leads, chosen_soon, found_within, found_few, found_fresh, found_never, found_acts, found_chosen, at}
use Rattle.pz_sim.proofs.choosing.act_kth.Goals as goal

pub offset_bounds-trees-found : goal.offset_bounds-trees-found
offset_bounds-trees-found g c =
    let few = found_few (setting_at c.args.scene) c.args.scene.clock c.args.trees.now c.args.totals.now c.args.pairs.now c.requires.told c.args.found c.requires.action.0 c.requires.action.1
    c.processes-processes.result c.requires.of_model (c.processes-processes.ensures.counted (model_at c.args.scene)) c.processes-processes.ensures.few in
    omega (arith, few)

pub overflow_cast-at : goal.overflow_cast-at
overflow_cast-at g c =
    let few = found_few (setting_at c.args.scene) c.args.scene.clock c.args.trees.now c.args.totals.now c.args.pairs.now c.requires.told c.args.found c.requires.action.0 c.requires.action.1
    c.processes-processes.result c.requires.of_model (c.processes-processes.ensures.counted (model_at c.args.scene)) c.processes-processes.ensures.few in
    omega (arith, few)

pub bounds-trees-found : goal.bounds-trees-found
bounds-trees-found g c = found_within (setting_at c.args.scene) c.args.scene.clock c.args.trees.now c.args.totals.now c.args.pairs.now c.requires.told c.args.found c.requires.action.0 c.requires.action.1

pub kth_internal-requires : goal.kth_internal-requires
kth_internal-requires g c = record { fresh = found_fresh (setting_at c.args.scene) c.args.scene.clock c.args.trees.now c.args.totals.now c.args.pairs.now c.requires.told c.args.found c.requires.action.0 c.requires.action.1 c.index-trees-found.result }

pub unreachable-requires : goal.unreachable-requires
unreachable-requires g c = found_never (setting_at c.args.scene) c.args.scene.clock c.args.trees.now c.args.totals.now c.args.pairs.now c.requires.told c.args.found c.requires.action.0 c.requires.action.1 c.index-trees-found.result c.in_ok-action.field-0 (λ m fresh. c.in_ok-action.ensures.found m fresh) c.in_default.not-Some

pub act_alone-requires-clause-can : goal.act_alone-requires-clause-can
act_alone-requires-clause-can g c = found_acts (setting_at c.args.scene) c.args.scene.clock c.args.trees.now c.args.totals.now c.args.pairs.now c.requires.told c.args.found c.requires.action.0 c.requires.action.1 c.index-trees-found.result c.in_ok-action.field-0 (λ m fresh. c.in_ok-action.ensures.found m fresh) c.in-Some.action c.in-Some.is c.walks_list_what_is_active.ensures.internal

pub returns-clause-leads : goal.returns-clause-leads
returns-clause-leads g c k is =
    chosen_leads (setting_at c.args.scene) (config_at c.args.scene c.args.trees.now) (offers_in (all c.args.totals.now) c.args.pairs.now.pairs) k
    (Internal (at (setting_at c.args.scene) c.args.scene.clock c.args.trees.now c.args.totals.now c.args.pairs.now c.requires.told c.args.found k is c.index-trees-found.result c.in_ok-action.field-0 (λ m fresh. c.in_ok-action.ensures.found m fresh) c.in-Some.action c.in-Some.is) c.in-Some.action.kind c.in-Some.action.pos) (reached (model_at c.args.scene) c.args.scene.clock c.act_alone.new.trees) c.act_alone.result
    (found_chosen (setting_at c.args.scene) c.args.scene.clock c.args.trees.now c.args.totals.now c.args.pairs.now c.requires.told c.args.found k is c.index-trees-found.result c.in_ok-action.field-0 (λ m fresh. c.in_ok-action.ensures.found m fresh) c.in-Some.action c.in-Some.is c.offers_are_numbered.ensures.internal c.pairs_are_those_of_the_rules.ensures.couples c.wires_are_known.ensures.law (subst IsSound c.model-model.ensures.is c.model-model.ensures.sound))
    (c.act_alone.ensures.leads c.in-Some.action.kind c.in-Some.action.pos)

pub returns-clause-ticks : goal.returns-clause-ticks
returns-clause-ticks g c k is =
    chosen_soon (setting_at c.args.scene) c.args.scene.clock (offers_in (all c.args.totals.now) c.args.pairs.now.pairs) k c.args.trees.now c.act_alone.new.trees
    (Internal (at (setting_at c.args.scene) c.args.scene.clock c.args.trees.now c.args.totals.now c.args.pairs.now c.requires.told c.args.found k is c.index-trees-found.result c.in_ok-action.field-0 (λ m fresh. c.in_ok-action.ensures.found m fresh) c.in-Some.action c.in-Some.is) c.in-Some.action.kind c.in-Some.action.pos)
    c.act_alone.new.pairs.pairs c.args.steps.now c.act_alone.new.steps c.act_alone.result
    (found_chosen (setting_at c.args.scene) c.args.scene.clock c.args.trees.now c.args.totals.now c.args.pairs.now c.requires.told c.args.found k is c.index-trees-found.result c.in_ok-action.field-0 (λ m fresh. c.in_ok-action.ensures.found m fresh) c.in-Some.action c.in-Some.is c.offers_are_numbered.ensures.internal c.pairs_are_those_of_the_rules.ensures.couples c.wires_are_known.ensures.law (subst IsSound c.model-model.ensures.is c.model-model.ensures.sound))
    (c.act_alone.ensures.ticks c.in-Some.action.kind c.in-Some.action.pos)
