use Rattle.std.proofs.Common.{◌≡◌, true, false, arith}
use Rattle.pz_part_opening.proofs.EachDone.{one_undone, one_done}
use Rattle.pz_part_opening.proofs.done.all_done.Goals as goal

pub returns-then-not-is_done : goal.returns-then-not-is_done
returns-then-not-is_done c =
    let undone : c.is_done.result ≡ false = grind (arith, c.if-not-is_done.true) in
    one_undone c.args.parts.now c.loop-part.part-index c.part-item.result c.is_done.result c.loop-part-test.true c.part-item.is c.is_done.ensures undone c.loop-part.invariant

pub loop-part-preserved : goal.loop-part-preserved
loop-part-preserved c =
    let done : c.is_done.result ≡ true = grind (arith, c.if-not-is_done.false) in
    one_done c.args.parts.now c.loop-part.part-index c.part-item.result c.is_done.result c.loop-part-test.true c.part-item.is c.is_done.ensures done c.loop-part.invariant
