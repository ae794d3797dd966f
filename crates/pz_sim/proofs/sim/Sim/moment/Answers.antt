use Rattle.std.proofs.Common.{subst}
use Rattle.pz_bind.specs.pz_classes.CheckedView.{checked_model}
use Rattle.pz_rules.specs.pz_classes_rules.Soundness.{IsSound}
use Rattle.pz_tree.specs.pz_term_processes.Standing.{setting_of}
use Rattle.pz_sim.proofs.Kept.{whole_moment, too_high_moment, stopped_moment, broken_moment}
use Rattle.pz_sim.proofs.sim.Sim.moment.Goals as goal

pub returns-in-Whole : goal.returns-in-Whole
returns-in-Whole c =
    let s = c.args.self.now in
    whole_moment c.moments_are_decided.ensures.law c.pairs_are_those_of_the_rules.ensures.couples c.wires_are_known.ensures.law c.what_is_merely_so_is_so.ensures.moment (setting_of (checked_model s.checked) s.limits) s.clock s.trees.items s.totals s.pairs s.standing
    (subst IsSound c.model-model.ensures.is c.model-model.ensures.sound) s.holds c.in-Whole.moment c.in-Whole.is

pub returns-in-High : goal.returns-in-High
returns-in-High c =
    let s = c.args.self.now in
    too_high_moment c.moments_are_decided.ensures.law c.pairs_are_those_of_the_rules.ensures.couples c.wires_are_known.ensures.law c.what_is_merely_so_is_so.ensures.moment (setting_of (checked_model s.checked) s.limits) s.clock s.trees.items s.totals s.pairs s.standing
    (subst IsSound c.model-model.ensures.is c.model-model.ensures.sound) s.holds c.in-High.trouble c.in-High.is

pub returns-in-Stopped : goal.returns-in-Stopped
returns-in-Stopped c =
    let s = c.args.self.now in
    stopped_moment c.moments_are_decided.ensures.law c.pairs_are_those_of_the_rules.ensures.couples c.wires_are_known.ensures.law c.what_is_merely_so_is_so.ensures.moment (setting_of (checked_model s.checked) s.limits) s.clock s.trees.items s.totals s.pairs s.standing
    (subst IsSound c.model-model.ensures.is c.model-model.ensures.sound) s.holds c.in-Stopped.trouble c.in-Stopped.is

pub returns-in-Broken : goal.returns-in-Broken
returns-in-Broken c =
    let s = c.args.self.now in
    broken_moment c.moments_are_decided.ensures.law c.pairs_are_those_of_the_rules.ensures.couples c.wires_are_known.ensures.law c.what_is_merely_so_is_so.ensures.moment (setting_of (checked_model s.checked) s.limits) s.clock s.trees.items s.totals s.pairs s.standing
    (subst IsSound c.model-model.ensures.is c.model-model.ensures.sound) s.holds c.in-Broken.is
