use Rattle.std.proofs.Common.{List, sym, ap, subst, ◌∙◌}
use Rattle.std.specs.Prelude.{All}
use Rattle.pz_eval_operations.specs.pz_eval_rules.Answers.{ends, stops}
use Rattle.pz_eval_operations.specs.pz_eval_rules.devices.Computed.{done}
use Rattle.pz_eval_operations.specs.declared.task.Activation.{Activation}
use Rattle.pz_eval_operations.specs.devices.Sites.{place_of, locals_at, memory_at}
use Rattle.pz_eval_machine.specs.devices.Steps.{root}
use Rattle.pz_eval_operations.specs.devices.Within.{ActivationWithin}
use Rattle.pz_eval_machine.proofs.Unwinding.{unwound_none, result_handed, root_push}
use Rattle.pz_eval_machine.proofs.Within.{all_pop}
use Rattle.std.proofs.Common.{arith}
use Rattle.pz_eval_machine.proofs.Weighing.{callers_pushed}
use Rattle.pz_eval_machine.proofs.machine.give_result.Goals as goal

pub returns-then-leave-clause-goes : goal.returns-then-leave-clause-goes
returns-then-leave-clause-goes c model now s r =
    result_handed model now c.args.callers.now.items c.leave.new.callers.items c.leave.new.activation s (locals_at c.args.activation.now.site c.args.activation.now.locals.items) c.args.value r (c.leave.ensures.returns c.if-leave.true)

pub returns-then-leave-clause-root : goal.returns-then-leave-clause-root
returns-then-leave-clause-root c =
    sym (root_push c.leave.new.callers.items c.args.callers.now.items c.leave.new.activation (place_of c.args.activation.now.site) (c.leave.ensures.returns c.if-leave.true))

pub returns-then-leave-clause-within : goal.returns-then-leave-clause-within
returns-then-leave-clause-within c count y all here =
    let parts = all_pop (ActivationWithin count) c.args.callers.now.items c.leave.new.callers.items c.leave.new.activation (c.leave.ensures.returns c.if-leave.true) all in
    (parts.0, parts.1, y)

pub returns-clause-goes : goal.returns-clause-goes
returns-clause-goes c model now s r =
    let alone = c.leave.ensures.stays c.if-leave.false in
    unwound_none model now c.args.callers.now.items (done (stops (ends c.args.value (memory_at c.args.activation.now.site s c.args.activation.now.locals.items))) r) alone.0
    ∙ ap (λ (a : Activation). done (stops (ends c.args.value (memory_at a.site s a.locals.items))) r) (sym alone.2)

pub returns-clause-root : goal.returns-clause-root
returns-clause-root c =
    let alone = c.leave.ensures.stays c.if-leave.false in
    ap (λ (cs : List Activation). root cs (place_of c.leave.new.activation.site)) (alone.1 ∙ sym alone.0) ∙ ap (λ (a : Activation). root c.args.callers.now.items (place_of a.site)) alone.2

pub returns-clause-bottom : goal.returns-clause-bottom
returns-clause-bottom c = let alone = c.leave.ensures.stays c.if-leave.false in alone.1

pub returns-clause-within : goal.returns-clause-within
returns-clause-within c count y all here =
    let alone = c.leave.ensures.stays c.if-leave.false in
    (subst (λ (cs : List Activation). All (ActivationWithin count) cs) (alone.0 ∙ sym alone.1) all, subst (λ (a : Activation). ActivationWithin count a) (sym alone.2) here, y)

pub returns-then-leave-clause-lighter : goal.returns-then-leave-clause-lighter
returns-then-leave-clause-lighter c = omega (arith, callers_pushed c.leave.new.callers.items c.args.callers.now.items c.leave.new.activation (c.leave.ensures.returns c.if-leave.true))
