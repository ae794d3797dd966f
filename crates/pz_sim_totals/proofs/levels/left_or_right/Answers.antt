-- Under the number of a sum stand its two neighbours.
use Rattle.std.proofs.Common.{arith, rules}
use Rattle.pz_sim_totals.proofs.Pairing.{inside_twice}
use Rattle.pz_sim_totals.proofs.Finding.{is_left, is_right}
use Rattle.pz_sim_totals.proofs.levels.left_or_right.Goals as goal

pub overflow_mul-left : goal.overflow_mul-left
overflow_mul-left c = let lt = inside_twice c.args.here.now c.args.pair.process c.requires.process in search rules

pub offset_bounds-here-left : goal.offset_bounds-here-left
offset_bounds-here-left c = let lt = inside_twice c.args.here.now c.args.pair.process c.requires.process in search rules

pub bounds-here-left : goal.bounds-here-left
bounds-here-left c = inside_twice c.args.here.now c.args.pair.process c.requires.process

pub overflow_add-result : goal.overflow_add-result
overflow_add-result c = let lt = inside_twice c.args.here.now c.args.pair.process c.requires.process in search rules

pub returns-then-pair-before : goal.returns-then-pair-before
returns-then-pair-before c k pair =
    let lt = c.if-pair-before.true in
    is_left c.args.here.now c.args.pair.process c.args.pair.number k pair (omega (arith, lt))

pub returns-else-pair-before : goal.returns-else-pair-before
returns-else-pair-before c k pair =
    let le = c.if-pair-before.false in
    is_right c.args.here.now c.args.pair.process c.args.pair.number k pair (omega (arith, le))
