use Rattle.pz_classes_code.specs.StepView.{view}
use Rattle.pz_rules.specs.Openable.{alone}
use Rattle.pz_part_opening.specs.Homes.{home_view}
use Rattle.pz_part_opening.specs.devices.Spots.{spot_view}
use Rattle.pz_part_opening.proofs.Opened.{as_bare}
use Rattle.pz_part_opening.proofs.heights.opens_bare.Goals as goal

pub returns : goal.returns
returns c = λ s.
    as_bare c.openings_have_outlines.ensures.outlines (home_view c.args.home.now) s (alone (view c.args.step.now)) (spot_view c.go_inside.result.spot) c.go_inside.result.framed c.go_inside.ensures.opened c.go_inside.ensures.stands
