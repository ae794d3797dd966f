use Rattle.std.proofs.Common.{sym, ap, ◌∙◌}
use Rattle.pz_state.proofs.FrameNumbers.{open_here, none_here}
use Rattle.pz_state.proofs.frames.numbers_of.Goals as goal
use Rattle.pz_state.proofs.frames.numbers_of.Goals.{then-is_some+in_ok-push, else-is_some}

pub loop-place-preserved : goal.loop-place-preserved
loop-place-preserved c =
    elim c.if-is_some.branch [
      | then-is_some+in_ok-push w ↦ open_here c.args.table.now c.loop-place.place c.index-table-place.result c.loop-place.numbers.items c.if-is_some.numbers.items c.loop-place-test.true c.index-table-place.is (sym c.is_some.ensures ∙ w.if-is_some.true)
          (ap (λ v. v.items) w.numbers-is ∙ w.in_ok-push.ensures.items) c.loop-place.invariant
      | else-is_some w ↦ none_here c.args.table.now c.loop-place.place c.index-table-place.result c.loop-place.numbers.items c.if-is_some.numbers.items c.loop-place-test.true c.index-table-place.is (sym c.is_some.ensures ∙ w.if-is_some.false)
          (ap (λ v. v.items) w.numbers-is) c.loop-place.invariant
    ]
