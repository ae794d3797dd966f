-- One more behind.
use Rattle.std.proofs.Common.{refl, arith}
use Rattle.pz_match.specs.devices.Again.{SameSend}
use Rattle.pz_match.proofs.Planned.{back_none, back_next}
use Rattle.pz_match.proofs.planning.sends_behind.Goals as goal

pub loop-back-init : goal.loop-back-init
loop-back-init c = back_none SameSend c.args.sends.now c.args.offers.now

pub loop-back-preserved : goal.loop-back-preserved
loop-back-preserved c =
    back_next SameSend c.args.sends.now c.args.offers.now c.loop-back.back c.index-sends-sends.result c.index-offers-offers.result (omega (arith, c.loop-back-test.true, c.min-most.ensures)) (omega (arith, c.loop-back-test.true, c.min-most.ensures)) c.index-sends-sends.is c.index-offers-offers.is
    (c.if-not-is_same_send.ensures refl) c.loop-back.invariant
