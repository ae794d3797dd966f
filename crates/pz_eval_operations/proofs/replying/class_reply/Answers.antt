use Rattle.std.proofs.Common.{◌≡◌, ◌∙◌, ap}
use Rattle.pz_state.specs.Objects.{ObjectView}
use Rattle.pz_state.specs.States.{object}
use Rattle.pz_classes_code.specs.CodeView.{list_view}
use Rattle.pz_eval_operations.proofs.Replied.{no_object_reply, class_runs, class_has_none}
use Rattle.pz_eval_operations.proofs.replying.class_reply.Goals as goal

pub returns-in_default : goal.returns-in_default
returns-in_default c = record {
  replies = λ m locals known. no_object_reply m (record { state = c.args.state.now.held; locals = locals }) c.args.receiver.now c.args.selector.now c.args.count c.in_default.not-Ref;
  within = tt;
}

pub object-requires : goal.object-requires
object-requires c = rw c.in-Ref.is at c.requires.receiver

pub returns-in-Some-clause-replies : goal.returns-in-Some-clause-replies
returns-in-Some-clause-replies c m locals known =
    let class_is : c.class-class.result ≡ (object c.args.state.now.held c.in-Ref.r).class = c.class-class.ensures ∙ ap (λ (o : ObjectView). o.class) c.object.ensures.value in
    class_runs m c.args.state.now.held locals c.args.receiver.now c.in-Ref.r c.args.selector.now c.args.count c.class-class.result c.as_bytes.result.now
    c.in-Ref.is class_is (c.as_bytes.ensures.value ∙ c.as_str.ensures) c.in-Some.method.locals (list_view c.in-Some.method.code.now) (c.in-Some.ensures m known)

pub returns-in-Some-clause-within : goal.returns-in-Some-clause-within
returns-in-Some-clause-within c = rw c.in-Ref.is at c.requires.receiver

pub returns-in-None-clause-replies : goal.returns-in-None-clause-replies
returns-in-None-clause-replies c m locals known =
    let class_is : c.class-class.result ≡ (object c.args.state.now.held c.in-Ref.r).class = c.class-class.ensures ∙ ap (λ (o : ObjectView). o.class) c.object.ensures.value in
    class_has_none m c.args.state.now.held locals c.args.receiver.now c.in-Ref.r c.args.selector.now c.args.count c.class-class.result c.as_bytes.result.now
    c.in-Ref.is class_is (c.as_bytes.ensures.value ∙ c.as_str.ensures) (c.in-None.ensures m known)
