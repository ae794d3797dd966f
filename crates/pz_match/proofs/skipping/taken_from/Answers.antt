-- The groups of the wire, one by one.
use Rattle.std.proofs.Common.{◌≤◌, ◌∙◌, ap, get_or, length, arith}
use Rattle.std.proofs.lemmas.Option.{slice_get_within}
use Rattle.pz_match.specs.devices.Sharing.{share_taken}
use Rattle.pz_match_lists.specs.declared.shares.Share.{Share}
use Rattle.pz_match.proofs.Passing.{part_more, part_over, part_all, calm_more, calm_all, calm_here}
use Rattle.pz_match.proofs.skipping.taken_from.Goals as goal

pub loop-at-preserved-then-number-groups : goal.loop-at-preserved-then-number-groups
loop-at-preserved-then-number-groups c =
    let groups = c.args.groups.now in
    let numbers = c.args.numbers.now in
    let u = c.loop-at.at in
    let over : length groups ≤ get_or numbers u 0 = omega (arith, c.if-number-groups.true) in
    record {
      within = omega (arith, c.loop-at-test.true);
      sum_is = part_over groups numbers c.requires.increasing c.args.wire c.requires.listed c.args.shares.now c.args.block u c.loop-at.sum c.loop-at-test.true over c.loop-at.invariant.sum_is;
      calm =
          calm_more groups numbers c.requires.increasing c.args.wire c.requires.listed u c.loop-at-test.true
          (λ x there on. absurd (let lt = slice_get_within groups (get_or numbers u 0) x there in omega (arith, lt, over))) c.loop-at.invariant.calm;
    }

pub loop-at-preserved : goal.loop-at-preserved
loop-at-preserved c =
    let groups = c.args.groups.now in
    let numbers = c.args.numbers.now in
    let u = c.loop-at.at in
    let x = c.index-groups-number.result in
    let value = c.in_ok-part.ensures.number ∙ ap (λ (s : Share). share_taken x c.args.wire s) c.at.ensures in
    let more = c.in_ok-sum.ensures in
    record {
      within = omega (arith, c.loop-at-test.true);
      sum_is =
          part_more groups numbers c.requires.increasing c.args.wire c.requires.listed c.args.shares.now c.args.block u c.loop-at.sum c.in_ok-part.part x c.loop-at-test.true (omega (arith, c.if-number-groups.false)) c.index-groups-number.is value c.loop-at.invariant.sum_is
          ∙ omega (arith, more.1);
      calm =
          calm_more groups numbers c.requires.increasing c.args.wire c.requires.listed u c.loop-at-test.true
          (calm_here groups c.args.wire (get_or numbers u 0) x (omega (arith, c.if-number-groups.false)) c.index-groups-number.is c.in_ok-part.ensures.calm) c.loop-at.invariant.calm;
    }

pub returns : goal.returns
returns c =
    let groups = c.args.groups.now in
    let numbers = c.args.numbers.now in
    let over : length numbers ≤ c.loop-at.at = omega (arith, c.loop-at-test.false) in
    record {
      calm = calm_all groups numbers c.requires.increasing c.args.wire c.requires.listed c.loop-at.at c.loop-at.invariant.within over c.loop-at.invariant.calm;
      sum_is = part_all groups numbers c.requires.increasing c.args.wire c.requires.listed c.args.shares.now c.args.block c.loop-at.at c.loop-at.sum c.loop-at.invariant.within over c.loop-at.invariant.sum_is;
    }
