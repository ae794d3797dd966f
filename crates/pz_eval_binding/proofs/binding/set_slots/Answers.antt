use Rattle.std.proofs.Common.{◌∙◌, sym, arith}
use Rattle.pz_eval_binding.specs.Binding.{set_slots}
use Rattle.pz_eval_binding.proofs.Bound.{values_over, seen_is}
use Rattle.pz_eval_binding.proofs.binding.set_slots.Goals as goal

pub returns-then-place-len-clause-ok : goal.returns-then-place-len-clause-ok
returns-then-place-len-clause-ok c =
    seen_is c.loop-place.state c.args.state.now (set_slots c.args.frame.0 c.args.slots.now c.args.values.items c.args.state.now.held)
    (sym (values_over c.args.frame.0 c.args.slots.now c.loop-place.values.items c.loop-place.place c.loop-place.state.held (omega (arith, c.loop-place.values.ok.0, c.len.ensures, c.if-place-len.true))) ∙ c.loop-place.invariant.so_far)
    c.loop-place.invariant.marks
