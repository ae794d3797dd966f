use Rattle.std.proofs.Common.{refl, sym, ap, ◌∙◌}
use Rattle.std.specs.Option.{option_map, option_copied}
use Rattle.pz_classes_code.specs.StepView as step
use Rattle.pz_bind.specs.pz_classes.CheckedView.{checked_model}
use Rattle.pz_rules.specs.pz_offer.declared.trouble.Trouble.TheVariants.{High}
use Rattle.pz_part_actions.specs.pz_part_opening.Homes.{home_view}
use Rattle.pz_term_processes.specs.Standing.{setting_of}
use Rattle.pz_term_processes.proofs.First.{call_is}
use Rattle.pz_term_processes.proofs.Beginnings.{begins_low, begins_high}
use Rattle.pz_term_processes.proofs.starting.too_high.Goals as goal

pub returns-then-step_within-most : goal.returns-then-step_within-most
returns-then-step_within-most c = λ place at.
    begins_low (setting_of (checked_model c.args.checked.now) c.args.limits) place (step.view c.in-Some.call.now)
    (call_is c.trees_are_sets.ensures.statements (checked_model c.args.checked.now) c.classes.result.now c.args.net.now c.args.process c.class.result c.in-Some.call.now place
    c.classes.ensures.tabled c.requires.of_model at c.class.ensures.is (λ m known. ap (λ r. option_map step.view (option_copied r)) (sym c.in-Some.is) ∙ c.init.ensures m known))
    (home_view c.home_at-home.result) (c.home_at-home.ensures.home place at) c.step_within.result c.from-most.result c.from-most.ensures c.step_within.ensures c.if-step_within-most.true

pub returns : goal.returns
returns c = λ place at.
    begins_high (setting_of (checked_model c.args.checked.now) c.args.limits) place (step.view c.in-Some.call.now)
    (call_is c.trees_are_sets.ensures.statements (checked_model c.args.checked.now) c.classes.result.now c.args.net.now c.args.process c.class.result c.in-Some.call.now place
    c.classes.ensures.tabled c.requires.of_model at c.class.ensures.is (λ m known. ap (λ r. option_map step.view (option_copied r)) (sym c.in-Some.is) ∙ c.init.ensures m known))
    (home_view c.home_at-home.result) (c.home_at-home.ensures.home place at) c.args.process (High c.args.process c.in-Some.call.now.pos) c.in-Some.call.now c.step_within.result c.from-most.result c.from-most.ensures c.step_within.ensures
    c.if-step_within-most.false refl refl
