-- One more in front.
use Rattle.std.proofs.Common.{refl, arith}
use Rattle.pz_match.specs.devices.Again.{SameSend}
use Rattle.pz_match.proofs.Planned.{beside_nil, front_next}
use Rattle.pz_match.proofs.planning.sends_in_front.Goals as goal

pub loop-at-init : goal.loop-at-init
loop-at-init c = beside_nil SameSend

pub loop-at-preserved : goal.loop-at-preserved
loop-at-preserved c =
    front_next SameSend c.args.sends.now c.args.offers.now c.loop-at.at c.index-sends-at.result c.index-offers-at.result (omega (arith, c.loop-at-test.true, c.min-most.ensures)) (omega (arith, c.loop-at-test.true, c.min-most.ensures)) c.index-sends-at.is c.index-offers-at.is
    (c.if-not-is_same_send.ensures refl) c.loop-at.invariant
