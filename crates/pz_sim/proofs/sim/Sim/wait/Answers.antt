use Rattle.std.proofs.Common.{◌<◌, ◌+◌, ◌^◌, ℕ, sym, subst, arith}
use Rattle.pz_bind.specs.pz_classes.CheckedView.{checked_model}
use Rattle.pz_rules.specs.pz_classes_rules.Soundness.{IsSound}
use Rattle.pz_tree.specs.pz_term_processes.Standing.{setting_of}
use Rattle.pz_sim.proofs.Kept.{setting_at}
use Rattle.pz_sim.proofs.Timed.{kept_at_time, clock_before, time_passes}
use Rattle.pz_sim.proofs.Waited.{short_so, passes_soon}
use Rattle.pz_sim.proofs.sim.Sim.wait.Goals as goal

pub elapse_in-requires-clause-kept : goal.elapse_in-requires-clause-kept
elapse_in-requires-clause-kept g c =
    let s = c.args.self.now in
    kept_at_time c.one_moment.ensures.one c.moments_are_decided.ensures.law c.pairs_are_those_of_the_rules.ensures.couples c.wires_are_known.ensures.law (setting_of (checked_model s.checked) s.limits) s.clock s.trees.items s.totals s.pairs
    c.args.time (subst IsSound c.model-model.ensures.is c.model-model.ensures.sound) s.standing s.holds c.requires.there

pub elapse_in-requires-clause-low : goal.elapse_in-requires-clause-low
elapse_in-requires-clause-low g c =
    let s = c.args.self.now in
    subst (λ (n : ℕ). n < 2 ^ 127)
    (clock_before c.one_moment.ensures.one c.moments_are_decided.ensures.law c.pairs_are_those_of_the_rules.ensures.couples c.wires_are_known.ensures.law (setting_of (checked_model s.checked) s.limits) s.clock s.trees.items s.totals s.pairs
    c.args.time (subst IsSound c.model-model.ensures.is c.model-model.ensures.sound) s.standing s.holds c.requires.there)
    c.requires.low

pub returns-clause-ok : goal.returns-clause-ok
returns-clause-ok g c =
    let s = c.args.self.now in
    time_passes c.one_moment.ensures.one c.moments_are_decided.ensures.law c.pairs_are_those_of_the_rules.ensures.couples c.wires_are_known.ensures.law (setting_of (checked_model s.checked) s.limits) s.clock s.trees.items s.totals s.pairs
    c.args.time (subst IsSound c.model-model.ensures.is c.model-model.ensures.sound) s.standing s.holds c.requires.there c.what_is_merely_so_is_so.ensures.passes c.elapse_in.new.trees.items c.in_ok-moment.ensures.passes c.in_ok-moment.moment

pub returns-clause-setting : goal.returns-clause-setting
returns-clause-setting g c =
    let s = c.args.self.now in
    sym (setting_at (setting_of (checked_model s.checked) s.limits) s.clock s.trees.items s.standing)

pub overflow_add-self : goal.overflow_add-self
overflow_add-self g c =
    let s = c.args.self.now in
    let setting = setting_of (checked_model s.checked) s.limits in
    let sound : IsSound (checked_model s.checked) = subst IsSound c.model-model.ensures.is c.model-model.ensures.sound in
    let kept =
    kept_at_time c.one_moment.ensures.one c.moments_are_decided.ensures.law c.pairs_are_those_of_the_rules.ensures.couples c.wires_are_known.ensures.law setting s.clock s.trees.items s.totals s.pairs
    c.args.time sound s.standing s.holds c.requires.there in
    let short = short_so setting s.clock c.args.time s.trees.items s.totals s.pairs kept in
    let before =
    clock_before c.one_moment.ensures.one c.moments_are_decided.ensures.law c.pairs_are_those_of_the_rules.ensures.couples c.wires_are_known.ensures.law setting s.clock s.trees.items s.totals s.pairs
    c.args.time sound s.standing s.holds c.requires.there in
    let low = c.requires.low in
    omega (arith, low, before, short)

pub returns-clause-short : goal.returns-clause-short
returns-clause-short g c =
    let s = c.args.self.now in
    let setting = setting_of (checked_model s.checked) s.limits in
    let sound : IsSound (checked_model s.checked) = subst IsSound c.model-model.ensures.is c.model-model.ensures.sound in
    let kept =
    kept_at_time c.one_moment.ensures.one c.moments_are_decided.ensures.law c.pairs_are_those_of_the_rules.ensures.couples c.wires_are_known.ensures.law setting s.clock s.trees.items s.totals s.pairs
    c.args.time sound s.standing s.holds c.requires.there in
    let short = short_so setting s.clock c.args.time s.trees.items s.totals s.pairs kept in
    let before =
    clock_before c.one_moment.ensures.one c.moments_are_decided.ensures.law c.pairs_are_those_of_the_rules.ensures.couples c.wires_are_known.ensures.law setting s.clock s.trees.items s.totals s.pairs
    c.args.time sound s.standing s.holds c.requires.there in
    omega (arith, before, short)

pub returns-clause-ticks : goal.returns-clause-ticks
returns-clause-ticks g c =
    let s = c.args.self.now in
    let new = c.elapse_in.new in
    passes_soon c.pairs_are_those_of_the_rules.ensures.couples c.wires_are_known.ensures.law (setting_of (checked_model s.checked) s.limits) (s.clock + c.args.time) s.trees.items new.trees.items new.totals new.pairs c.in_ok-moment.moment
    c.args.steps.now new.steps (subst IsSound c.model-model.ensures.is c.model-model.ensures.sound) c.in_ok-moment.ensures.kept c.in_ok-moment.ensures.ticks
