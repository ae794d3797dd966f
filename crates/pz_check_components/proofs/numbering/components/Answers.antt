use Rattle.std.proofs.Common.{◌≡◌, true, sym, ◌∙◌}
use Rattle.std.proofs.lemmas.Result.{IfOk-weaker}
use Rattle.pz_check_components.specs.devices.Walking.{walk_view, is_at_end}
use Rattle.pz_check_components.proofs.Ends.{begins, numbers_tell}
use Rattle.pz_check_components.proofs.numbering.components.Goals as goal

pub loop-walk-init : goal.loop-walk-init
loop-walk-init c = rw c.in_ok-walk.ensures (begins c.args.edges.now)

pub returns : goal.returns
returns c =
    let end : is_at_end (walk_view c.loop-walk.walk) ≡ true = sym c.is_at_end.ensures ∙ c.loop-walk-test.false in
    IfOk-weaker c.numbers_of.result _ _ (λ numbers are. numbers_tell c.args.edges.now (walk_view c.loop-walk.walk) c.loop-walk.invariant end numbers.items (rw c.as_slice.ensures.value at are)) c.numbers_of.ensures
