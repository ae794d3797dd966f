use Rattle.std.proofs.Common.{◌-◌, length, refl, sym, subst, arith}
use Rattle.std.specs.Prelude.{◌<◌, IfOk}
use Rattle.std.proofs.lemmas.Option.{slice_get_read}
use Rattle.pz_bind.specs.pz_classes.CheckedView.{checked_model}
use Rattle.pz_rules.specs.pz_classes_rules.Soundness.{IsSound}
use Rattle.pz_match.specs.Pairs.{taken}
use Rattle.pz_sim_totals.specs.declared.total.Total.{Total}
use Rattle.pz_tree.specs.pz_term_processes.Standing.{setting_of}
use Rattle.pz_sim.specs.devices.Numbered.{IsCommunication}
use Rattle.pz_sim.proofs.Numbered.{never_other, process_within, process_below, has_action, internal_offered, table_there, number_left, communication_offered}
use Rattle.pz_sim.proofs.sim.Sim.offer.Goals as goal

pub unreachable-requires : goal.unreachable-requires
unreachable-requires c =
    let s = c.args.self.now in
    never_other c.one_moment.ensures.one (setting_of (checked_model s.checked) s.limits) s.clock s.trees.items s.totals s.pairs s.standing c.requires.0 c.args.k c.requires.1 s.holds c.in_default.not-Whole

pub index-requires : goal.index-requires
index-requires c =
    let s = c.args.self.now in
    let within = process_within c.one_moment.ensures.one (setting_of (checked_model s.checked) s.limits) s.clock s.trees.items s.totals s.pairs s.standing c.requires.0 c.args.k c.requires.1 s.holds c.in-Some.found c.in-Some.ensures in
    omega (arith, within, s.trees.ok.0)

pub internal_action-requires-clause-number : goal.internal_action-requires-clause-number
internal_action-requires-clause-number c =
    let s = c.args.self.now in
    process_below c.one_moment.ensures.one (setting_of (checked_model s.checked) s.limits) s.clock s.trees.items s.totals s.pairs s.standing c.requires.0 c.args.k c.requires.1 s.holds c.in-Some.found c.in-Some.ensures s.net c.processes-processes.result s.of_model c.processes-processes.ensures.counted c.processes-processes.ensures.few

pub internal_action-requires-clause-there : goal.internal_action-requires-clause-there
internal_action-requires-clause-there c =
    let s = c.args.self.now in
    has_action c.one_moment.ensures.one (setting_of (checked_model s.checked) s.limits) s.clock s.trees.items s.totals s.pairs s.standing c.requires.0 c.args.k c.requires.1 s.holds c.in-Some.found c.in-Some.ensures c.index.result.now
    (slice_get_read s.trees.items (length s.trees.items) c.in-Some.found.process c.index.result.now refl (process_within c.one_moment.ensures.one (setting_of (checked_model s.checked) s.limits) s.clock s.trees.items s.totals s.pairs s.standing c.requires.0 c.args.k c.requires.1 s.holds c.in-Some.found c.in-Some.ensures) c.index.ensures)

pub communication-requires-clause-there : goal.communication-requires-clause-there
communication-requires-clause-there c =
    let s = c.args.self.now in
    table_there c.one_moment.ensures.one (setting_of (checked_model s.checked) s.limits) s.clock s.trees.items s.totals s.pairs s.standing c.requires.0 c.args.k c.requires.1 s.holds

pub communication-requires-clause-within : goal.communication-requires-clause-within
communication-requires-clause-within c =
    let s = c.args.self.now in
    subst (λ (t : Total). c.args.k - t.summary.internal < length (taken s.pairs.pairs)) (sym c.all.ensures)
    (number_left c.one_moment.ensures.one (setting_of (checked_model s.checked) s.limits) s.clock s.trees.items s.totals s.pairs s.standing c.requires.0 c.args.k c.requires.1 s.holds c.in-None.ensures c.moments_are_decided.ensures.law c.pairs_are_those_of_the_rules.ensures.couples c.wires_are_known.ensures.law (subst IsSound c.model-model.ensures.is c.model-model.ensures.sound) c.requires.2)

pub returns-in-Some : goal.returns-in-Some
returns-in-Some c =
    let s = c.args.self.now in
    internal_offered c.one_moment.ensures.one (setting_of (checked_model s.checked) s.limits) s.clock s.trees.items s.totals s.pairs s.standing c.requires.0 c.args.k c.requires.1 s.holds c.in-Some.found c.in-Some.ensures c.index.result.now
    (slice_get_read s.trees.items (length s.trees.items) c.in-Some.found.process c.index.result.now refl (process_within c.one_moment.ensures.one (setting_of (checked_model s.checked) s.limits) s.clock s.trees.items s.totals s.pairs s.standing c.requires.0 c.args.k c.requires.1 s.holds c.in-Some.found c.in-Some.ensures) c.index.ensures)
    c.what_is_merely_so_is_so.ensures.chosen c.offers_are_numbered.ensures.internal c.pairs_are_those_of_the_rules.ensures.couples c.wires_are_known.ensures.law (subst IsSound c.model-model.ensures.is c.model-model.ensures.sound)
    c.internal_action.result c.internal_action.ensures.is

pub returns-in-None : goal.returns-in-None
returns-in-None c =
    let s = c.args.self.now in
    communication_offered c.one_moment.ensures.one (setting_of (checked_model s.checked) s.limits) s.clock s.trees.items s.totals s.pairs s.standing c.requires.0 c.args.k c.requires.1 s.holds c.in-None.ensures
    c.what_is_merely_so_is_so.ensures.chosen c.offers_are_numbered.ensures.communications c.pairs_are_those_of_the_rules.ensures.couples c.wires_are_known.ensures.law (subst IsSound c.model-model.ensures.is c.model-model.ensures.sound)
    c.communication.result (subst (λ (t : Total). IfOk c.communication.result (IsCommunication s.pairs.pairs (c.args.k - t.summary.internal))) c.all.ensures c.communication.ensures)
