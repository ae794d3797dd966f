use Rattle.pz_classes_code.specs.StepView.{view}
use Rattle.pz_rules.specs.Openable.{alone}
use Rattle.pz_part_opening.specs.Homes.{home_view}
use Rattle.pz_part_opening.proofs.Opened.{as_high}
use Rattle.pz_part_opening.proofs.heights.step_within.Goals as goal

pub returns : goal.returns
returns c = λ s.
    as_high c.openings_have_outlines.ensures.outlines (home_view c.args.home.now) s c.openings_have_outlines.ensures.high c.args.room c.within.result (alone (view c.args.step.now)) c.within.ensures
