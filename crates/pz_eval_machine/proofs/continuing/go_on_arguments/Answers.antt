use Rattle.std.proofs.Common.{◌≡◌, ◌+◌, length, refl, sym, ap, ◌∙◌, subst, inr, arith}
use Rattle.std.proofs.lemmas.Result.{IfOk-weaker}
use Rattle.pz_classes_code.specs.CodeView.{view, list_view}
use Rattle.pz_state.specs.References.{RefersWithin}
use Rattle.pz_eval_operations.specs.pz_eval_rules.Answers.{gives}
use Rattle.pz_eval_operations.specs.pz_eval_rules.devices.Computed.{done, evaluated}
use Rattle.pz_eval_operations.specs.declared.task.Request.{Request}
use Rattle.pz_eval_operations.specs.declared.task.Activation.{Activation}
use Rattle.pz_eval_operations.specs.devices.Sites.{place_of, memory_of}
use Rattle.pz_eval_operations.specs.devices.Within.{RequestWithin, ActivationWithin}
use Rattle.pz_eval_machine.specs.devices.Weights.{list_weight, tasks_weight}
use Rattle.pz_eval_machine.proofs.Within.{all_push}
use Rattle.pz_eval_machine.proofs.Weighing.{no_list, some_list}
use Rattle.pz_eval_machine.proofs.Arguments.{asked, argument_taken, argument_waits, arguments_done, no_more_counted, no_more_beside, no_more_at}
use Rattle.pz_eval_machine.proofs.continuing.go_on_arguments.Goals as goal

pub arguments-init : goal.arguments-init
arguments-init c = record { goes = λ model now. refl; activation = refl; request = c.requires.request; weighs = inr (refl, omega arith) }

pub arguments-preserved : goal.arguments-preserved
arguments-preserved c =
    let inside : ActivationWithin (length c.args.state.now.held.objects) c.arguments.activation = subst (λ (a : Activation). ActivationWithin (length c.args.state.now.held.objects) a) (sym c.arguments.invariant.activation) c.requires.within in
    let there : RequestWithin (length c.args.state.now.held.objects) c.deref_mut.result.now = subst (λ (q : Request). RequestWithin (length c.args.state.now.held.objects) q) (sym c.deref_mut.ensures.value) c.arguments.invariant.request in
    record {
      goes = λ model now.
          argument_taken model now (place_of c.args.activation.now.site) (memory_of c.args.activation.now c.args.state.now.held) c.arguments.request.value c.deref_mut.result.now c.add_argument.new.arguments.items c.in-Some.first.now c.in-Some.rest.now c.arguments.left.now c.in-Some-at_once.value c.deref.result.now.depth c.arguments.units c.at_once.new.units
          c.deref_mut.ensures.value (ap (λ (q : Request). q.depth) c.deref.ensures) c.in_ok-add_argument-in-Some-at_once.ensures c.in-Some.ensures.cases.0
          (subst (λ (a : Activation). evaluated model now c.deref.result.now.depth (place_of a.site) (view c.in-Some.first.now) (memory_of a c.args.state.now.held) c.arguments.units ≡ done (gives c.in-Some-at_once.value (memory_of a c.args.state.now.held)) c.at_once.new.units) c.arguments.invariant.activation (c.in-Some-at_once.ensures.finds.1 model now))
          ∙ c.arguments.invariant.goes model now;
      activation = c.arguments.invariant.activation;
      request = record {
        receiver = there.receiver;
        arguments = all_push (RefersWithin (length c.args.state.now.held.objects)) c.deref_mut.result.now.arguments.items c.add_argument.new.arguments.items c.in-Some-at_once.value c.in_ok-add_argument-in-Some-at_once.ensures there.arguments (c.in-Some-at_once.ensures.within inside);
      };
      weighs = no_more_counted c.args.units.now (list_weight (list_view c.args.codes.now)) c.arguments.units (list_weight (list_view c.arguments.left.now)) c.at_once.new.units (list_weight (list_view c.in-Some.rest.now)) c.arguments.invariant.weighs c.in-Some-at_once.ensures.finds.0;
    }

pub returns-in_err-add_argument-in-Some-at_once-clause-site : goal.returns-in_err-add_argument-in-Some-at_once-clause-site
returns-in_err-add_argument-in-Some-at_once-clause-site c = ap (λ (a : Activation). a.site) c.arguments.invariant.activation

pub returns-in_err-add_argument-in-Some-at_once-clause-locals : goal.returns-in_err-add_argument-in-Some-at_once-clause-locals
returns-in_err-add_argument-in-Some-at_once-clause-locals c = ap (λ (a : Activation). a.locals) c.arguments.invariant.activation

pub returns-in-None-clause-goes : goal.returns-in-None-clause-goes
returns-in-None-clause-goes c model now =
    argument_waits model now c.args.activation.now c.arguments.activation c.args.state.now.held c.descend.new.tasks.items c.arguments.request c.in-Some.first.now c.in-Some.rest c.arguments.left.now c.deref-in-None.result.now.depth c.arguments.units c.at_once.new.units c.descend.result
    (asked model now (place_of c.args.activation.now.site) c.args.request.value c.args.request.value.arguments.items (list_view c.args.codes.now) (memory_of c.args.activation.now c.args.state.now.held) c.args.units.now)
    c.arguments.invariant.activation (ap (λ (q : Request). q.depth) c.deref-in-None.ensures) c.in-None.ensures.finds c.in-Some.ensures.cases.0 (c.arguments.invariant.goes model now)
    (c.descend.ensures.goes model now (place_of c.arguments.activation.site) (memory_of c.arguments.activation c.args.state.now.held) c.at_once.new.units)

pub returns-in-None-clause-site : goal.returns-in-None-clause-site
returns-in-None-clause-site c = ap (λ (a : Activation). a.site) c.arguments.invariant.activation

pub returns-in-None-clause-locals : goal.returns-in-None-clause-locals
returns-in-None-clause-locals c = ap (λ (a : Activation). a.locals) c.arguments.invariant.activation

pub returns-in-None-clause-within : goal.returns-in-None-clause-within
returns-in-None-clause-within c =
    let inside : ActivationWithin (length c.args.state.now.held.objects) c.arguments.activation = subst (λ (a : Activation). ActivationWithin (length c.args.state.now.held.objects) a) (sym c.arguments.invariant.activation) c.requires.within in
    IfOk-weaker c.descend.result _ _
    (λ k kept. let tasks = kept (length c.args.state.now.held.objects) c.arguments.invariant.request inside.tasks in (record { site = inside.site; locals = inside.locals; tasks = tasks.0 }, tasks.1)) c.descend.ensures.within

pub returns-in-None-clause-weighs : goal.returns-in-None-clause-weighs
returns-in-None-clause-weighs c =
    IfOk-weaker c.descend.result _ _
    (λ k e. no_more_at c.args.units.now (list_weight (list_view c.args.codes.now) + tasks_weight c.args.activation.now.tasks.items) c.arguments.units c.at_once.new.units (list_weight (list_view c.arguments.left.now) + tasks_weight c.arguments.activation.tasks.items) _ c.in-None.ensures.finds
    (omega (arith, e, some_list c.in-Some.first.now c.in-Some.rest.now c.arguments.left.now c.in-Some.ensures.cases.0))
    (no_more_beside c.args.units.now (list_weight (list_view c.args.codes.now)) c.arguments.units (list_weight (list_view c.arguments.left.now)) (tasks_weight c.args.activation.now.tasks.items) (tasks_weight c.arguments.activation.tasks.items) (ap (λ (a : Activation). tasks_weight a.tasks.items) c.arguments.invariant.activation) c.arguments.invariant.weighs)) c.descend.ensures.weighs

pub returns-clause-goes : goal.returns-clause-goes
returns-clause-goes c model now =
    arguments_done model now c.args.activation.now c.arguments.activation c.args.state.now.held c.arguments.request.value c.arguments.left.now c.arguments.units
    (asked model now (place_of c.args.activation.now.site) c.args.request.value c.args.request.value.arguments.items (list_view c.args.codes.now) (memory_of c.args.activation.now c.args.state.now.held) c.args.units.now)
    c.arguments.invariant.activation c.in_default.ensures.cases (c.arguments.invariant.goes model now)

pub returns-clause-site : goal.returns-clause-site
returns-clause-site c = ap (λ (a : Activation). a.site) c.arguments.invariant.activation

pub returns-clause-locals : goal.returns-clause-locals
returns-clause-locals c = ap (λ (a : Activation). a.locals) c.arguments.invariant.activation

pub returns-clause-within : goal.returns-clause-within
returns-clause-within c = (subst (λ (a : Activation). ActivationWithin (length c.args.state.now.held.objects) a) (sym c.arguments.invariant.activation) c.requires.within, c.arguments.invariant.request)

pub returns-clause-weighs : goal.returns-clause-weighs
returns-clause-weighs c =
    no_more_at c.args.units.now (list_weight (list_view c.args.codes.now) + tasks_weight c.args.activation.now.tasks.items) c.arguments.units c.arguments.units (list_weight (list_view c.arguments.left.now) + tasks_weight c.arguments.activation.tasks.items) _ refl
    (omega (arith, no_list c.arguments.left.now c.in_default.ensures.cases))
    (no_more_beside c.args.units.now (list_weight (list_view c.args.codes.now)) c.arguments.units (list_weight (list_view c.arguments.left.now)) (tasks_weight c.args.activation.now.tasks.items) (tasks_weight c.arguments.activation.tasks.items) (ap (λ (a : Activation). tasks_weight a.tasks.items) c.arguments.invariant.activation) c.arguments.invariant.weighs)
