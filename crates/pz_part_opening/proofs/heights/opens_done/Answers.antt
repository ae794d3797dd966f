use Rattle.std.proofs.Common.{ap}
use Rattle.std.specs.Prelude.{not}
use Rattle.pz_classes_code.specs.StepView.{view}
use Rattle.pz_rules.specs.Openable.{alone}
use Rattle.pz_part_opening.specs.Homes.{home_view}
use Rattle.pz_part_opening.specs.devices.Spots.{spot_view}
use Rattle.pz_part_opening.proofs.Opened.{unframed_as_done, framed_as_done}
use Rattle.pz_part_opening.proofs.heights.opens_done.Goals as goal

pub returns-then-not-inner : goal.returns-then-not-inner
returns-then-not-inner c = λ s.
    let h = home_view c.args.home.now in
    let inner = c.go_inside-inner.result in
    unframed_as_done c.openings_have_outlines.ensures.outlines h s (alone (view c.args.step.now)) (spot_view inner.spot) inner.framed c.go_inside-inner.ensures.opened c.go_inside-inner.ensures.stands c.openings_have_outlines.ensures.done
    c.is_empty.result c.if-not-inner.true (c.is_empty.ensures h c.go_inside-inner.ensures.stands)

pub returns-else-not-inner : goal.returns-else-not-inner
returns-else-not-inner c = λ s.
    let h = home_view c.args.home.now in
    let inner = c.go_inside-inner.result in
    framed_as_done c.openings_have_outlines.ensures.outlines h s (alone (view c.args.step.now)) (spot_view inner.spot) inner.framed c.go_inside-inner.ensures.opened c.go_inside-inner.ensures.stands c.openings_have_outlines.ensures.done
    (not inner.framed) c.if-not-inner.false (ap not c.if-not-inner.false)
