use Rattle.std.proofs.Common.{ℕ, subst}
use Rattle.pz_bind.specs.pz_classes.CheckedView.{checked_model}
use Rattle.pz_rules.specs.pz_classes_rules.Soundness.{IsSound}
use Rattle.pz_tree.specs.pz_term_processes.Standing.{setting_of}
use Rattle.pz_sim_totals.specs.Sums.{all}
use Rattle.pz_sim_laws.specs.Deciding.{offers_in}
use Rattle.pz_sim.specs.devices.Acting.{HasAdvanced}
use Rattle.pz_sim.proofs.Advanced.{told_there, below_there, many_there, has_chosen, chosen_soon, setting_stays}
use Rattle.pz_sim.proofs.sim.Sim.take.Goals as goal

pub go_on_in-requires-clause-told : goal.go_on_in-requires-clause-told
go_on_in-requires-clause-told g c =
    let s = c.args.self.now in
    told_there c.one_moment.ensures.one (setting_of (checked_model s.checked) s.limits) s.clock s.trees.items s.totals s.pairs c.requires.there.0 s.standing c.requires.there.1 s.holds

pub go_on_in-requires-clause-below : goal.go_on_in-requires-clause-below
go_on_in-requires-clause-below g c =
    let s = c.args.self.now in
    below_there c.one_moment.ensures.one (setting_of (checked_model s.checked) s.limits) s.clock s.trees.items s.totals s.pairs c.requires.there.0 s.standing c.requires.there.1 s.holds
    c.moments_are_decided.ensures.law c.pairs_are_those_of_the_rules.ensures.couples c.wires_are_known.ensures.law (subst IsSound c.model-model.ensures.is c.model-model.ensures.sound) c.args.k c.requires.there.2

pub returns-in-Ok-clause-ok : goal.returns-in-Ok-clause-ok
returns-in-Ok-clause-ok g c =
    let s = c.args.self.now in
    let setting = setting_of (checked_model s.checked) s.limits in
    let sound : IsSound (checked_model s.checked) = subst IsSound c.model-model.ensures.is c.model-model.ensures.sound in
    has_chosen c.one_moment.ensures.one setting s.clock s.trees.items s.totals s.pairs c.requires.there.0 s.standing c.requires.there.1 s.holds c.what_is_merely_so_is_so.ensures.leads sound c.args.k c.go_on_in.new.trees.items c.in-Ok.standing
    (subst (λ (n : ℕ). HasAdvanced setting s.clock n c.args.k s.trees.items c.go_on_in.new.trees.items c.in-Ok.standing)
    (many_there c.one_moment.ensures.one setting s.clock s.trees.items s.totals s.pairs c.requires.there.0 s.standing c.requires.there.1 s.holds
    c.moments_are_decided.ensures.law c.pairs_are_those_of_the_rules.ensures.couples c.wires_are_known.ensures.law sound) c.in-Ok.ensures.leads)

pub returns-in-Ok-clause-setting : goal.returns-in-Ok-clause-setting
returns-in-Ok-clause-setting g c =
    let s = c.args.self.now in
    setting_stays (setting_of (checked_model s.checked) s.limits) s.clock s.trees.items c.go_on_in.new.trees.items s.standing c.in-Ok.standing

pub returns-in-Ok-clause-ticks : goal.returns-in-Ok-clause-ticks
returns-in-Ok-clause-ticks g c =
    let s = c.args.self.now in
    let new = c.go_on_in.new in
    chosen_soon c.pairs_are_those_of_the_rules.ensures.couples c.wires_are_known.ensures.law (setting_of (checked_model s.checked) s.limits) s.clock (offers_in (all s.totals) s.pairs.pairs) c.args.k s.trees.items new.trees.items new.totals new.pairs
    c.args.steps.now new.steps (subst IsSound c.model-model.ensures.is c.model-model.ensures.sound) c.in-Ok.standing c.in-Ok.ensures.leads c.in-Ok.ensures.holds c.in-Ok.ensures.ticks
