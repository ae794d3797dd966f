-- Behind the end.
use Rattle.std.proofs.Common.{arith}
use Rattle.std.proofs.lemmas.List.Sums.{sum_by-take-drop}
use Rattle.pz_match_lists.proofs.Summing.{whole}
use Rattle.pz_match_lists.proofs.counts.find_in.Goals as goal

pub returns : goal.returns
returns c =
    let inv = c.loop-place.invariant in
    omega (arith, inv, whole c.args.numbers.now c.loop-place.place (omega (arith, c.loop-place-test.false)), sum_by-take-drop (λ x. x) c.args.numbers.now c.args.start)
