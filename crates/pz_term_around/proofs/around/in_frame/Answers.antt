use Rattle.std.proofs.Common.{List, ℕ, length, take, drop, ap, ◌∙◌}
use Rattle.pz_classes_code.specs.declared.slot.Slot.{Slot}
use Rattle.pz_rules.specs.pz_state.States.{locals}
use Rattle.pz_rules.specs.pz_state.Marks.{changed}
use Rattle.pz_eval_binding.specs.Binding.{set_slots}
use Rattle.pz_term_around.proofs.AroundLevels.{frame_ends}
use Rattle.pz_term_around.proofs.around.in_frame.Goals as goal

pub returns-then-is_done : goal.returns-then-is_done
returns-then-is_done c = λ home.
    frame_ends home c.args.outer.0 c.args.frame.0 c.args.inputs c.args.results c.args.left c.in_ok-outputs.outputs.items c.args.state.now c.set_slots.new.state c.is_done.result c.is_done.ensures c.if-is_done.true
    (c.in_ok-outputs.ensures.values ∙ ap (λ (n : ℕ). take n (drop c.args.inputs (locals c.args.state.now.held c.args.frame.0))) (c.len.ensures ∙ ap (λ (xs : List Slot). length xs) c.get.ensures))
    (c.in_ok-set_slots.ensures.ok ∙ ap (λ (xs : List Slot). changed c.args.state.now (set_slots c.args.outer.0 xs c.in_ok-outputs.outputs.items c.args.state.now.held)) (c.as_slice.ensures ∙ c.get-then-is_done.ensures))
