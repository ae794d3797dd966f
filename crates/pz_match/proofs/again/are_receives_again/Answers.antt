-- One receive more comes again.
use Rattle.std.proofs.Common.{refl, arith}
use Rattle.std.proofs.lemmas.Option.{slice_get_within}
use Rattle.pz_match.specs.devices.Again.{ReceiveAgain}
use Rattle.pz_match.proofs.Retold.{below_next}
use Rattle.pz_match.proofs.again.are_receives_again.Goals as goal

pub loop-at-preserved : goal.loop-at-preserved
loop-at-preserved c =
    below_next ReceiveAgain c.args.receives.now c.args.offers.now c.loop-at.at c.index-receives-at.result c.index-offers-at.result c.index-receives-at.is c.index-offers-at.is (c.if-not-is_receive_again.ensures refl) c.loop-at.invariant

pub returns : goal.returns
returns c found = record {
  long = c.if-receives-offers.false;
  each = λ k x y at to. c.loop-at.invariant k x y (omega (arith, slice_get_within c.args.receives.now k x at, c.loop-at-test.false)) at to;
}
