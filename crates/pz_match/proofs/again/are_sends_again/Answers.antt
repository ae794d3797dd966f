-- One send more comes again.
use Rattle.std.proofs.Common.{refl, arith}
use Rattle.std.proofs.lemmas.Option.{slice_get_within}
use Rattle.pz_match.specs.devices.Again.{SendAgain}
use Rattle.pz_match.proofs.Retold.{below_next}
use Rattle.pz_match.proofs.again.are_sends_again.Goals as goal

pub loop-at-preserved : goal.loop-at-preserved
loop-at-preserved c =
    below_next (SendAgain c.args.groups.now) c.args.sends.now c.args.offers.now c.loop-at.at c.index-sends-at.result c.index-offers-at.result c.index-sends-at.is c.index-offers-at.is (c.if-not-is_send_again.ensures refl) c.loop-at.invariant

pub returns : goal.returns
returns c found = record {
  long = c.if-sends-offers.false;
  each = λ k x y at to. c.loop-at.invariant k x y (omega (arith, slice_get_within c.args.sends.now k x at, c.loop-at-test.false)) at to;
}
