use Rattle.std.proofs.Common.{◌≡◌, ap, sym, subst, ◌∙◌, List, []}
use Rattle.std.specs.Prelude.{All}
use Rattle.std.proofs.lemmas.Result.{IfOk-weaker}
use Rattle.std.proofs.lemmas.List.Elements.{All-nil}
use Rattle.pz_classes_code.specs.pz_value.declared.value.Value.TheVariants.{Nil}
use Rattle.pz_classes_code.specs.CodeView.{list_view}
use Rattle.pz_eval_operations.specs.pz_eval_rules.devices.Computed.{and_then, sequence, evaluated}
use Rattle.pz_eval_operations.specs.declared.task.Task.{Task}
use Rattle.pz_eval_operations.specs.declared.task.Task.TheVariants as task
use Rattle.pz_eval_operations.specs.declared.task.Activation.{Activation}
use Rattle.pz_eval_operations.specs.devices.Sites.{place_of, memory_at}
use Rattle.pz_eval_machine.specs.devices.Tasks.{pending, meant, unwound}
use Rattle.pz_eval_machine.specs.devices.Steps.{root}
use Rattle.pz_eval_operations.specs.devices.Within.{TaskWithin}
use Rattle.pz_eval_machine.proofs.Going.{goes_same}
use Rattle.pz_eval_machine.proofs.Unwinding.{goes_unwound, call_same, root_push, on_ok}
use Rattle.pz_eval_machine.proofs.Within.{caller_waits, locals_within, site_within}
use Rattle.pz_eval_machine.proofs.calling.call.Goals as goal

pub returns-clause-goes : goal.returns-clause-goes
returns-clause-goes c model now s r =
    goes_same (λ k. unwound model now c.push.new.self.items (meant model now (place_of c.replace.new.dest.site) c.go_on_list.new.tasks.items k (memory_at c.replace.new.dest.site s c.replace.new.dest.locals.items) r)) c.go_on_list.result r
    (call_same model now s r c.args.request.depth c.args.object c.args.method.locals (list_view c.args.method.code.now) c.args.request.arguments.items c.args.request.more c.args.activation.now c.replace.result c.replace.new.dest c.args.callers.now.items c.push.new.self.items
    (ap (λ (a : Activation). a.site) c.replace.ensures.value) (ap (λ (a : Activation). a.locals.items) c.replace.ensures.value) (ap (λ (a : Activation). a.tasks.items) c.replace.ensures.value ∙ c.in_ok-add_task.ensures) c.in_ok-push.ensures.items
    (ap (λ (a : Activation). a.site) c.replace.ensures.after ∙ c.in_ok-inner.ensures.site) (ap (λ (a : Activation). a.locals.items) c.replace.ensures.after ∙ c.in_ok-inner.ensures.locals) (ap (λ (a : Activation). a.tasks.items) c.replace.ensures.after ∙ c.in_ok-inner.ensures.tasks))
    (goes_unwound model now c.push.new.self.items (λ k. meant model now (place_of c.replace.new.dest.site) c.go_on_list.new.tasks.items k (memory_at c.replace.new.dest.site s c.replace.new.dest.locals.items) r) c.go_on_list.result r
    (and_then (sequence model now (evaluated model now c.args.request.depth) (place_of c.replace.new.dest.site) Nil (list_view c.args.method.code.now) (memory_at c.replace.new.dest.site s c.replace.new.dest.locals.items) r) (pending model now (place_of c.replace.new.dest.site) c.replace.new.dest.tasks.items))
    (c.go_on_list.ensures.goes model now (place_of c.replace.new.dest.site) (memory_at c.replace.new.dest.site s c.replace.new.dest.locals.items) r))

pub returns-clause-root : goal.returns-clause-root
returns-clause-root c =
    on_ok c.go_on_list.result
    (root_push c.args.callers.now.items c.push.new.self.items c.replace.result (place_of c.replace.new.dest.site) c.in_ok-push.ensures.items
    ∙ ap (λ (a : Activation). root c.args.callers.now.items (place_of a.site)) c.replace.ensures.value)

pub returns-clause-within : goal.returns-clause-within
returns-clause-within c =
    IfOk-weaker c.go_on_list.result _ _
    (λ k kept count there all here q.
    let none : c.replace.new.dest.tasks.items ≡ [] = ap (λ (a : Activation). a.tasks.items) c.replace.ensures.after ∙ c.in_ok-inner.ensures.tasks in
    let tasks = kept count tt (subst (λ (ks : List Task). All (TaskWithin count) ks) (sym none) (All-nil (TaskWithin count))) in (
      caller_waits count c.args.callers.now.items c.push.new.self.items c.args.activation.now c.replace.result (task.Selectors c.args.request.depth c.args.request.more)
          (ap (λ (a : Activation). a.site) c.replace.ensures.value) (ap (λ (a : Activation). a.locals.items) c.replace.ensures.value) (ap (λ (a : Activation). a.tasks.items) c.replace.ensures.value ∙ c.in_ok-add_task.ensures) c.in_ok-push.ensures.items tt all here,
      record {
        site = site_within count c.args.object c.replace.new.dest.site (ap (λ (a : Activation). a.site) c.replace.ensures.after ∙ c.in_ok-inner.ensures.site) there;
        locals = locals_within count c.args.method.locals c.args.request.arguments.items c.replace.new.dest.locals.items (ap (λ (a : Activation). a.locals.items) c.replace.ensures.after ∙ c.in_ok-inner.ensures.locals) q.arguments;
        tasks = tasks.0;
      },
      tasks.1,
    )) c.go_on_list.ensures.within
