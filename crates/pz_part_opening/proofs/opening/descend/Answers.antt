use Rattle.std.proofs.Common.{◌∙◌, arith}
use Rattle.pz_classes_code.specs.StepView.{sequence_view}
use Rattle.pz_part_opening.specs.Homes.{home_view}
use Rattle.pz_part_opening.specs.declared.spot.Spot.TheVariants.{Several}
use Rattle.pz_part_opening.specs.devices.Spots.{spot_view}
use Rattle.pz_part_opening.proofs.Inside.{by_bracket, by_call}
use Rattle.pz_part_opening.proofs.Lighter.{lighter_inside}
use Rattle.pz_part_opening.proofs.opening.descend.Goals.{in-Some-locals+in_ok-open_frame, in_default-locals}
use Rattle.pz_part_opening.proofs.opening.descend.Goals as goal

pub loop-way-smaller : goal.loop-way-smaller
loop-way-smaller c = lighter_inside (home_view c.args.home.now) c.calls_unfold.ensures.heavier (spot_view c.loop-way.inner) c.in-Some.way.locals (sequence_view c.in-Some.way.steps.now) c.in-Some.ensures

pub loop-way-preserved : goal.loop-way-preserved
loop-way-preserved c = record {
  leads = elim c.match-way.branch [
    | in-Some-locals+in_ok-open_frame w ↦ by_call c.calls_unfold.ensures.unfolds c.frames_are_numbered.ensures.one (home_view c.args.home.now) c.args.spot c.loop-way.inner (Several c.in-Some.way.steps)
        c.in-Some.way.locals w.in-Some-locals.locals w.in_ok-open_frame.field-0 c.loop-way.frame c.match-way.frame c.args.state.now c.loop-way.state c.match-way.state
        c.in-Some.ensures w.in-Some-locals.is w.in_ok-open_frame.ensures.least (w.state-is ∙ w.in_ok-open_frame.ensures.ok) w.frame-is c.loop-way.invariant.leads
    | in_default-locals w ↦ by_bracket (home_view c.args.home.now) c.args.spot c.loop-way.inner (Several c.in-Some.way.steps)
        c.in-Some.way.locals c.loop-way.frame c.match-way.frame c.args.state.now c.loop-way.state c.match-way.state
        c.in-Some.ensures w.in_default-locals.is w.state-is w.frame-is c.loop-way.invariant.leads
  ];
  lighter = let l = lighter_inside (home_view c.args.home.now) c.calls_unfold.ensures.heavier (spot_view c.loop-way.inner) c.in-Some.way.locals (sequence_view c.in-Some.way.steps.now) c.in-Some.ensures in omega (arith, l, c.loop-way.invariant.lighter);
}
