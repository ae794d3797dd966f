use Rattle.pz_classes.specs.CheckedView.{checked_model}
use Rattle.pz_rules.specs.View.{term_view}
use Rattle.pz_part_opening.specs.Homes.{home_in, home_view}
use Rattle.pz_part_opening.proofs.Openings.{kept_became}
use Rattle.pz_part_opening.proofs.opening.open_term.Goals as goal

pub returns-in-Ok-clause-opened : goal.returns-in-Ok-clause-opened
returns-in-Ok-clause-opened c =
    kept_became (home_view c.new-home.result) (home_in (checked_model c.args.checked.now) c.args.class c.args.limits) c.in_ok-steps.steps c.args.steps.now (term_view c.in-Ok.term)
    c.args.state.now c.mark.new.self c.open_all.new.state c.keep.new.self c.in_ok-before.before
    c.new-home.ensures.home c.in_ok-steps.ensures c.in_ok-before.ensures.ok c.keep.ensures c.in-Ok.ensures.opened
