use Rattle.std.proofs.Common.{arith}
use Rattle.std.specs.Option.{is_some}
use Rattle.pz_part_opening.specs.Homes.{home_view}
use Rattle.pz_part_opening.specs.devices.Spots.{spot_view}
use Rattle.pz_part_opening.proofs.Outlining.{was_framed, was_not, goes_in, gets_lighter}
use Rattle.pz_part_opening.proofs.heights.go_inside.Goals.{then-inner, else-inner}
use Rattle.pz_part_opening.proofs.heights.go_inside.Goals as goal

pub loop-way-smaller : goal.loop-way-smaller
loop-way-smaller c = gets_lighter (home_view c.args.home.now) c.openings_have_outlines.ensures.unfolds c.calls_unfold.ensures.heavier (spot_view c.loop-way.inner.spot) c.in-Some.way c.in-Some.ensures

pub loop-way-preserved : goal.loop-way-preserved
loop-way-preserved c =
    let h = home_view c.args.home.now in
    let lighter = gets_lighter h c.openings_have_outlines.ensures.unfolds c.calls_unfold.ensures.heavier (spot_view c.loop-way.inner.spot) c.in-Some.way c.in-Some.ensures in
    record {
      opened =
          goes_in h c.openings_have_outlines.ensures.unfolds c.calls_unfold.ensures.heavier (spot_view c.loop-way.inner.spot) c.in-Some.way c.loop-way.inner.framed c.if-inner.inner _ c.in-Some.ensures c.loop-way.invariant.opened
          (elim c.if-inner.branch [
            | then-inner w ↦ was_framed c.loop-way.inner.framed (is_some c.in-Some.way.locals) c.if-inner.inner w.inner-is w.if-inner.true
            | else-inner w ↦ was_not c.loop-way.inner.framed (is_some c.in-Some.way.locals) c.if-inner.inner w.is_some.result w.inner-is w.is_some.ensures w.if-inner.false
          ]);
      lighter = omega (arith, lighter, c.loop-way.invariant.lighter);
    }
