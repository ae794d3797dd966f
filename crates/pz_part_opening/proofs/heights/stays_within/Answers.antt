use Rattle.std.proofs.Common.{arith}
use Rattle.pz_classes_code.specs.StepView.{view}
use Rattle.pz_rules.specs.Openable.{alone}
use Rattle.pz_rules.specs.Terms.{height}
use Rattle.pz_rules.specs.devices.Outlines.{outlined_all}
use Rattle.pz_part_opening.specs.Homes.{home_view}
use Rattle.pz_part_opening.proofs.Opened.{one_as_high, several_as_high}
use Rattle.pz_part_opening.proofs.heights.stays_within.Goals as goal

pub returns-in-len1 : goal.returns-in-len1
returns-in-len1 c = λ s.
    one_as_high c.openings_have_outlines.ensures.outlines (home_view c.args.home.now) s c.openings_have_outlines.ensures.high c.args.room c.within.result c.args.steps.now c.step-item.result (omega arith) c.step-item.is c.within.ensures

pub returns-in-len1-up : goal.returns-in-len1-up
returns-in-len1-up c = λ s.
    several_as_high c.openings_have_outlines.ensures.outlines (home_view c.args.home.now) s c.openings_have_outlines.ensures.high c.args.room c.above.result c.args.steps.now c.step-item-2.result c.in-len1-up.len_at_least c.step-item-2.is
    (c.above.ensures (height (outlined_all (home_view c.args.home.now) (alone (view c.step-item-2.result)))) c.within-in-len1-up.ensures)
