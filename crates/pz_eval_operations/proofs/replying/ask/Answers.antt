use Rattle.std.proofs.Common.{◌≡◌, ◌∙◌, refl, sym, subst, ℕ, length}
use Rattle.pz_state.specs.References.{RefersWithin}
use Rattle.pz_prims.specs.declared.answer.Prim.{Prim}
use Rattle.pz_prims.specs.Promises.{UnlessValue}
use Rattle.pz_eval_operations.proofs.Replied.{reply_value, reply_fault, reply_other, replies_same, unless_answer}
use Rattle.pz_eval_operations.proofs.replying.ask.Goals as goal

pub returns-in-Value-clause-replies : goal.returns-in-Value-clause-replies
returns-in-Value-clause-replies c m locals known =
    reply_value m c.args.request.now c.args.state.now c.prim.new.state locals c.as_bytes-name.result.now c.as_slice-arguments.result.now c.in_ok-value.field-0
    (c.as_bytes-name.ensures.value ∙ c.as_str.ensures) c.as_slice-arguments.ensures.value c.in_ok-value.ensures.answer c.in-Value.value c.in-Value.is c.in_ok-value.ensures.state

pub returns-in-Fault-clause-replies : goal.returns-in-Fault-clause-replies
returns-in-Fault-clause-replies c m locals known =
    reply_fault m c.args.request.now c.args.state.now c.prim.new.state locals c.as_bytes-name.result.now c.as_slice-arguments.result.now c.in_ok-value.field-0
    (c.as_bytes-name.ensures.value ∙ c.as_str.ensures) c.as_slice-arguments.ensures.value c.in_ok-value.ensures.answer c.in-Fault.kind c.in-Fault.is

pub class_reply-requires-clause-receiver : goal.class_reply-requires-clause-receiver
class_reply-requires-clause-receiver c = subst (λ (n : ℕ). RefersWithin n c.args.request.now.receiver) (sym c.prim.ensures.count) c.requires.within.receiver

pub returns-in-Other-clause-replies : goal.returns-in-Other-clause-replies
returns-in-Other-clause-replies c m locals known =
    let kept : c.prim.new.state ≡ c.args.state.now = subst (λ (x : Prim). UnlessValue (c.prim.new.state ≡ c.args.state.now) x) c.in-Other.is c.in_ok-value.ensures.kept in
    replies_same c.class_reply.result (record { state = c.prim.new.state.held; locals = locals })
    (sym (reply_other m c.args.request.now c.args.state.now c.prim.new.state locals c.as_bytes-name.result.now c.as_slice-arguments.result.now c.in_ok-value.field-0
    (c.as_bytes-name.ensures.value ∙ c.as_str.ensures) c.as_slice-arguments.ensures.value c.in_ok-value.ensures.answer (length c.as_slice-arguments.result.now) c.in-Other.is kept refl))
    (c.class_reply.ensures.replies m locals known)

pub returns-in-Other-clause-same : goal.returns-in-Other-clause-same
returns-in-Other-clause-same c =
    let kept : c.prim.new.state ≡ c.args.state.now = subst (λ (x : Prim). UnlessValue (c.prim.new.state ≡ c.args.state.now) x) c.in-Other.is c.in_ok-value.ensures.kept in
    unless_answer c.class_reply.result kept
