-- One more behind.
use Rattle.std.proofs.Common.{refl, arith}
use Rattle.pz_match.specs.devices.Again.{SameReceive}
use Rattle.pz_match.proofs.Planned.{back_none, back_next}
use Rattle.pz_match.proofs.planning.receives_behind.Goals as goal

pub loop-back-init : goal.loop-back-init
loop-back-init c = back_none SameReceive c.args.receives.now c.args.offers.now

pub loop-back-preserved : goal.loop-back-preserved
loop-back-preserved c =
    back_next SameReceive c.args.receives.now c.args.offers.now c.loop-back.back c.index-receives-receives.result c.index-offers-offers.result (omega (arith, c.loop-back-test.true, c.min-most.ensures)) (omega (arith, c.loop-back-test.true, c.min-most.ensures)) c.index-receives-receives.is c.index-offers-offers.is
    (c.if-not-is_same_receive.ensures refl) c.loop-back.invariant
