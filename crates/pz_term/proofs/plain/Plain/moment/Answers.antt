use Rattle.std.proofs.Common.{subst}
use Rattle.pz_bind.specs.pz_classes.CheckedView.{checked_model}
use Rattle.pz_rules.specs.pz_classes_rules.Soundness.{IsSound}
use Rattle.pz_term_processes.specs.Standing.{setting_of}
use Rattle.pz_term.proofs.Kept.{whole_moment, too_high_moment, stopped_moment, broken_moment}
use Rattle.pz_term.proofs.plain.Plain.moment.Goals as goal

pub returns-in-Whole : goal.returns-in-Whole
returns-in-Whole c =
    whole_moment (setting_of (checked_model c.args.self.now.checked) c.args.self.now.limits) c.args.self.now.clock c.args.self.now.processes.items c.args.self.now.standing c.in-Whole.outlook c.in-Whole.is c.one_moment.ensures.some c.one_moment.ensures.one
    (c.wires_are_known.ensures.law (checked_model c.args.self.now.checked) (subst IsSound c.model-model.ensures.is c.model-model.ensures.sound)) c.args.self.now.holds

pub returns-in-Stopped : goal.returns-in-Stopped
returns-in-Stopped c = stopped_moment (setting_of (checked_model c.args.self.now.checked) c.args.self.now.limits) c.args.self.now.clock c.args.self.now.processes.items c.args.self.now.standing c.in-Stopped.trouble c.in-Stopped.is

pub returns-in-Broken : goal.returns-in-Broken
returns-in-Broken c = broken_moment (setting_of (checked_model c.args.self.now.checked) c.args.self.now.limits) c.args.self.now.clock c.args.self.now.processes.items c.args.self.now.standing c.in-Broken.is

pub returns-in-High : goal.returns-in-High
returns-in-High c =
    too_high_moment (setting_of (checked_model c.args.self.now.checked) c.args.self.now.limits) c.args.self.now.clock c.args.self.now.processes.items c.args.self.now.standing c.in-High.trouble c.in-High.is c.one_moment.ensures.some c.one_moment.ensures.one
    (c.wires_are_known.ensures.law (checked_model c.args.self.now.checked) (subst IsSound c.model-model.ensures.is c.model-model.ensures.sound)) c.args.self.now.holds
