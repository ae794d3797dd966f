-- One more in front.
use Rattle.std.proofs.Common.{refl, arith}
use Rattle.pz_match.specs.devices.Again.{SameReceive}
use Rattle.pz_match.proofs.Planned.{beside_nil, front_next}
use Rattle.pz_match.proofs.planning.receives_in_front.Goals as goal

pub loop-at-init : goal.loop-at-init
loop-at-init c = beside_nil SameReceive

pub loop-at-preserved : goal.loop-at-preserved
loop-at-preserved c =
    front_next SameReceive c.args.receives.now c.args.offers.now c.loop-at.at c.index-receives-at.result c.index-offers-at.result (omega (arith, c.loop-at-test.true, c.min-most.ensures)) (omega (arith, c.loop-at-test.true, c.min-most.ensures)) c.index-receives-at.is c.index-offers-at.is
    (c.if-not-is_same_receive.ensures refl) c.loop-at.invariant
