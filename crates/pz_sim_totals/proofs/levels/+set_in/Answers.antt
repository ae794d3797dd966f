-- The sums of neighbours are those of a list in which one is another.
use Rattle.std.proofs.Common.{◌≡◌, ◌-◌, ◌/◌, ◌<◌, sym, subst, ◌∙◌, arith, rules, get_or, set}
use Rattle.pz_sim_totals.specs.Sums.{none, AreNumbers}
use Rattle.pz_sim_totals.specs.devices.Levels.{pairs, AreLevels}
use Rattle.pz_sim_totals.proofs.Cells.{over_levels, split_sum, split_set, one_set, on_err}
use Rattle.pz_sim_totals.proofs.levels.+set_in.Goals as goal
use Rattle.pz_sim_totals.proofs.levels.+set_in.Goals.{then-len-gt1+in_ok-sum+in_ok-set_in, else-len-gt1}

pub set_in-requires : goal.set_in-requires
set_in-requires t c =
    let yes = c.if-len-gt1.true in
    let two : 1 < c.args.len = omega (arith, yes) in
    let down = c.decreases in
    let lt = c.requires.place in
    (omega (arith, down, two), (subst (AreLevels (c.args.len - c.args.len / 2)) (sym c.split_at_mut-here.ensures.back) (over_levels c.args.len c.args.cells.now c.requires.levels two), omega (arith, lt, two)))

pub returns-in_err-set_in-clause-only : goal.returns-in_err-set_in-clause-only
returns-in_err-set_in-clause-only t c =
    let yes = c.if-len-gt1.true in
    let two : 1 < c.args.len = omega (arith, yes) in
    let cut = c.split_at_mut-here in
    let sum : c.in_ok-sum.sum ≡ get_or (pairs (set cut.result.0.now c.args.place c.args.total)) (c.args.place / 2) none = search rules in
    on_err c.from_residual-in_err-set_in.result
    (λ are. c.in_err-set_in.ensures.only (subst AreNumbers (sym (split_sum c.args.len c.args.cells.now c.requires.levels two cut.result.0.now cut.result.1.now cut.ensures.front cut.ensures.back c.args.place c.args.total c.in_ok-sum.sum c.requires.place sum)) are))

pub returns-clause-ok : goal.returns-clause-ok
returns-clause-ok t c =
    let cut = c.split_at_mut-here in
    elim c.if-len-gt1.branch [
      | then-len-gt1+in_ok-sum+in_ok-set_in w ↦
          let yes = w.if-len-gt1.true in
          let two : 1 < c.args.len = omega (arith, yes) in
          let sum : w.in_ok-sum.sum ≡ get_or (pairs (set cut.result.0.now c.args.place c.args.total)) (c.args.place / 2) none = search rules in
          split_set c.args.len c.args.cells.now c.requires.levels two cut.result.0.now cut.result.1.now cut.ensures.front cut.ensures.back c.args.place c.args.total w.in_ok-sum.sum c.requires.place sum c.if-len-gt1.above (w.above-is ∙ w.in_ok-set_in.ensures.ok)
      | else-len-gt1 w ↦
          let no = w.if-len-gt1.false in
          one_set c.args.len c.args.cells.now c.requires.levels cut.result.0.now cut.result.1.now c.if-len-gt1.above cut.ensures.front cut.ensures.back w.above-is (omega (arith, no)) c.args.place c.args.total
    ]
