-- An action of all is one of a sum of neighbours.
use Rattle.std.proofs.Common.{◌-◌, ◌/◌, ◌<◌, List, take, sym, subst, ap, arith}
use Rattle.pz_sim_totals.specs.declared.total.Total.{Total}
use Rattle.pz_sim_totals.specs.Sums.{all, IsAction}
use Rattle.pz_sim_totals.specs.devices.Levels.{AreLevels}
use Rattle.pz_sim_totals.proofs.Cells.{over_levels, over_sum, split_pairs}
use Rattle.pz_sim_totals.proofs.levels.+find_in.Goals as goal

pub find_in-pair-requires : goal.find_in-pair-requires
find_in-pair-requires t c =
    let no = c.if-len-le1.false in
    let two : 1 < c.args.len = omega (arith, no) in
    let down = c.decreases in
    let half = c.args.len - c.args.len / 2 in
    let back = sym c.split_at.ensures.back in
    let same = ap (λ (s : Total). s.summary.internal) (over_sum c.args.len c.args.cells.now c.requires.levels two) in
    let lt = c.requires.action in
    (omega (arith, down, two), (subst (AreLevels half) back (over_levels c.args.len c.args.cells.now c.requires.levels two), subst (λ (us : List Total). c.args.action < (all (take half us)).summary.internal) back (omega (arith, lt, same))))

pub left_or_right-requires-clause-process : goal.left_or_right-requires-clause-process
left_or_right-requires-clause-process t c =
    let no = c.if-len-le1.false in
    let same = split_pairs c.args.len c.args.cells.now c.requires.levels (omega (arith, no)) c.split_at.result.0.now c.split_at.result.1.now c.split_at.ensures.front c.split_at.ensures.back in
    (subst (λ (us : List Total). IsAction us c.args.action c.find_in-pair.result) same c.find_in-pair.ensures).process

pub left_or_right-requires-clause-number : goal.left_or_right-requires-clause-number
left_or_right-requires-clause-number t c =
    let no = c.if-len-le1.false in
    let same = split_pairs c.args.len c.args.cells.now c.requires.levels (omega (arith, no)) c.split_at.result.0.now c.split_at.result.1.now c.split_at.ensures.front c.split_at.ensures.back in
    (subst (λ (us : List Total). IsAction us c.args.action c.find_in-pair.result) same c.find_in-pair.ensures).number

pub returns : goal.returns
returns t c =
    let no = c.if-len-le1.false in
    let same = split_pairs c.args.len c.args.cells.now c.requires.levels (omega (arith, no)) c.split_at.result.0.now c.split_at.result.1.now c.split_at.ensures.front c.split_at.ensures.back in
    let pair = subst (λ (us : List Total). IsAction us c.args.action c.find_in-pair.result) same c.find_in-pair.ensures in
    subst (λ (us : List Total). IsAction us c.args.action c.left_or_right.result) c.split_at.ensures.front (c.left_or_right.ensures c.args.action pair)
