use Rattle.std.proofs.Common.{◌≡◌, ℕ, [], length, refl, sym, ap, subst, arith}
use Rattle.std.specs.Prelude.{All}
use Rattle.std.proofs.lemmas.Result.{IfOk-weaker}
use Rattle.std.proofs.lemmas.List.Elements.{All-pop}
use Rattle.pz_classes_code.specs.CodeView.{view}
use Rattle.pz_eval_operations.specs.pz_eval_rules.devices.Computed.{Reached, and_then, evaluated}
use Rattle.pz_classes_code.specs.pz_value.declared.value.Value.{Value}
use Rattle.pz_eval_machine.specs.declared.control.Control.{Control}
use Rattle.pz_eval_operations.specs.declared.task.Site.{Site}
use Rattle.pz_eval_operations.specs.declared.task.Request.{Request}
use Rattle.pz_eval_operations.specs.devices.Sites.{place_of, memory_at, memory_of}
use Rattle.pz_eval_operations.specs.devices.Views.{sendings_view}
use Rattle.pz_eval_machine.specs.devices.Tasks.{sent, resumed, pending, meant, coming, unwound}
use Rattle.pz_eval_machine.specs.devices.Steps.{Advances, Progresses, root}
use Rattle.pz_eval_operations.specs.devices.Within.{RequestWithin, TaskWithin, ActivationWithin}
use Rattle.pz_eval_machine.proofs.Going.{given_none, given_some}
use Rattle.pz_eval_operations.proofs.Worth.{nothing_left}
use Rattle.pz_eval_machine.proofs.Unwinding.{on_ok, advanced}
use Rattle.pz_eval_machine.proofs.Within.{activations_wider}
use Rattle.pz_eval_machine.proofs.Advancing.{advanced_in, went_root, went_bottom, went_within, popped, popped_within}
use Rattle.std.proofs.Common.{◌+◌, ◌<◌, inr}
use Rattle.pz_eval_machine.specs.devices.Weights.{weight, task_weight, tasks_weight, control_weight, load, callers_weight, total, Falls}
use Rattle.pz_eval_machine.proofs.Weighing.{tasks_pushed, counted_falls, falls_beside, went_falls, on_weaker}
use Rattle.pz_eval_machine.proofs.machine.advance.Goals as goal

pub returns-in-Evaluate-clause-goes : goal.returns-in-Evaluate-clause-goes
returns-in-Evaluate-clause-goes c model known =
    advanced_in c.begin.result c.on.result c.on.ensures model c.args.basis.clock c.args.callers.now.items
    (λ k. meant model c.args.basis.clock (place_of c.begin.new.activation.site) c.begin.new.activation.tasks.items k (memory_at c.begin.new.activation.site c.begin.new.state.held c.begin.new.activation.locals.items) c.begin.new.units) (memory_at c.begin.new.activation.site c.begin.new.state.held c.begin.new.activation.locals.items) c.begin.new.units
    (and_then (evaluated model c.args.basis.clock c.in-Evaluate.depth (place_of c.args.activation.now.site) (view c.in-Evaluate.code.now) (memory_at c.args.activation.now.site c.args.state.now.held c.args.activation.now.locals.items) c.args.units.now) (pending model c.args.basis.clock (place_of c.args.activation.now.site) c.args.activation.now.tasks.items))
    (meant model c.args.basis.clock (place_of c.args.activation.now.site) c.args.activation.now.tasks.items c.args.control (memory_at c.args.activation.now.site c.args.state.now.held c.args.activation.now.locals.items) c.args.units.now)
    (c.begin.ensures.goes model known)
    (sym (ap (λ (k : Control). meant model c.args.basis.clock (place_of c.args.activation.now.site) c.args.activation.now.tasks.items k (memory_at c.args.activation.now.site c.args.state.now.held c.args.activation.now.locals.items) c.args.units.now) c.in-Evaluate.is))

pub returns-in-Evaluate-clause-root : goal.returns-in-Evaluate-clause-root
returns-in-Evaluate-clause-root c =
    went_root (root c.args.callers.now.items (place_of c.begin.new.activation.site) ≡ root c.args.callers.now.items (place_of c.args.activation.now.site)) c.begin.result c.on.result c.on.ensures (on_ok c.begin.result (ap (λ (s : Site). root c.args.callers.now.items (place_of s)) c.begin.ensures.site))

pub returns-in-Evaluate-clause-bottom : goal.returns-in-Evaluate-clause-bottom
returns-in-Evaluate-clause-bottom c = went_bottom (c.args.callers.now.items ≡ []) c.begin.result c.on.result c.on.ensures

pub returns-in-Evaluate-clause-within : goal.returns-in-Evaluate-clause-within
returns-in-Evaluate-clause-within c =
    let n1 : ℕ = length c.begin.new.state.held.objects in
    went_within (All (ActivationWithin n1) c.args.callers.now.items) (ActivationWithin n1 c.begin.new.activation) n1 c.begin.result c.on.result c.on.ensures
    (IfOk-weaker c.begin.result _ _ (λ k kept. (activations_wider (length c.args.state.now.held.objects) n1 c.begin.ensures.count c.args.callers.now.items c.requires.callers, kept.0, kept.1)) c.begin.ensures.within)

pub resume-requires-clause-task : goal.resume-requires-clause-task
resume-requires-clause-task c = (popped_within (length c.args.state.now.held.objects) c.args.activation.now.tasks.items c.pop.new.self.items c.in-Some.task (popped c.args.activation.now.tasks.items c.pop.new.self.items c.pop.result c.in-Some.task c.pop.ensures.items c.in-Some.is) c.requires.within.tasks).1

pub resume-requires-clause-value : goal.resume-requires-clause-value
resume-requires-clause-value c = rw c.in-Give.is at c.requires.control

pub resume-requires-clause-within : goal.resume-requires-clause-within
resume-requires-clause-within c = record {
  site = c.requires.within.site;
  locals = c.requires.within.locals;
  tasks = (popped_within (length c.args.state.now.held.objects) c.args.activation.now.tasks.items c.pop.new.self.items c.in-Some.task (popped c.args.activation.now.tasks.items c.pop.new.self.items c.pop.result c.in-Some.task c.pop.ensures.items c.in-Some.is) c.requires.within.tasks).0;
}

pub returns-in-Some-clause-goes : goal.returns-in-Some-clause-goes
returns-in-Some-clause-goes c model known =
    advanced_in c.resume.result c.on-in-Some.result c.on-in-Some.ensures model c.args.basis.clock c.args.callers.now.items
    (λ k. meant model c.args.basis.clock (place_of c.resume.new.activation.site) c.resume.new.activation.tasks.items k (memory_at c.resume.new.activation.site c.resume.new.state.held c.resume.new.activation.locals.items) c.resume.new.units) (memory_at c.resume.new.activation.site c.resume.new.state.held c.resume.new.activation.locals.items) c.resume.new.units
    (and_then (resumed model c.args.basis.clock (place_of c.args.activation.now.site) c.in-Some.task c.in-Give.value (memory_at c.args.activation.now.site c.args.state.now.held c.args.activation.now.locals.items) c.args.units.now) (pending model c.args.basis.clock (place_of c.args.activation.now.site) c.pop.new.self.items))
    (meant model c.args.basis.clock (place_of c.args.activation.now.site) c.args.activation.now.tasks.items c.args.control (memory_at c.args.activation.now.site c.args.state.now.held c.args.activation.now.locals.items) c.args.units.now)
    (c.resume.ensures.goes model c.args.basis.clock)
    (given_some model c.args.basis.clock (place_of c.args.activation.now.site) c.args.control c.in-Give.value c.in-Some.task c.pop.new.self.items c.args.activation.now.tasks.items (memory_at c.args.activation.now.site c.args.state.now.held c.args.activation.now.locals.items) c.args.units.now c.in-Give.is (popped c.args.activation.now.tasks.items c.pop.new.self.items c.pop.result c.in-Some.task c.pop.ensures.items c.in-Some.is))

pub returns-in-Some-clause-root : goal.returns-in-Some-clause-root
returns-in-Some-clause-root c =
    went_root (root c.args.callers.now.items (place_of c.resume.new.activation.site) ≡ root c.args.callers.now.items (place_of c.args.activation.now.site)) c.resume.result c.on-in-Some.result c.on-in-Some.ensures (on_ok c.resume.result (ap (λ (s : Site). root c.args.callers.now.items (place_of s)) c.resume.ensures.site))

pub returns-in-Some-clause-bottom : goal.returns-in-Some-clause-bottom
returns-in-Some-clause-bottom c = went_bottom (c.args.callers.now.items ≡ []) c.resume.result c.on-in-Some.result c.on-in-Some.ensures

pub returns-in-Some-clause-within : goal.returns-in-Some-clause-within
returns-in-Some-clause-within c =
    let n1 : ℕ = length c.resume.new.state.held.objects in
    went_within (All (ActivationWithin n1) c.args.callers.now.items) (ActivationWithin n1 c.resume.new.activation) n1 c.resume.result c.on-in-Some.result c.on-in-Some.ensures
    (IfOk-weaker c.resume.result _ _ (λ k kept. (subst (λ (n : ℕ). All (ActivationWithin n) c.args.callers.now.items) (sym c.resume.ensures.count) c.requires.callers, kept.0, kept.1)) c.resume.ensures.within)

pub returns-in-None-clause-goes : goal.returns-in-None-clause-goes
returns-in-None-clause-goes c model known =
    subst (λ (x : Reached Value). Progresses (λ k. unwound model c.args.basis.clock c.give_back.new.callers.items (meant model c.args.basis.clock (place_of c.give_back.new.activation.site) c.give_back.new.activation.tasks.items k (memory_at c.give_back.new.activation.site c.args.state.now.held c.give_back.new.activation.locals.items) c.args.units.now)) c.give_back.result (memory_at c.give_back.new.activation.site c.args.state.now.held c.give_back.new.activation.locals.items) c.args.units.now (unwound model c.args.basis.clock c.args.callers.now.items x))
    (given_none model c.args.basis.clock (place_of c.args.activation.now.site) c.args.control c.in-Give.value c.args.activation.now.tasks.items (memory_at c.args.activation.now.site c.args.state.now.held c.args.activation.now.locals.items) c.args.units.now c.in-Give.is (nothing_left c.args.activation.now.tasks.items (omega (arith, c.in-None.ensures.cases.0, c.args.activation.now.tasks.ok.0))))
    (c.give_back.ensures.goes model c.args.basis.clock c.args.state.now.held c.args.units.now)

pub returns-in-None-clause-root : goal.returns-in-None-clause-root
returns-in-None-clause-root c = c.give_back.ensures.root

pub returns-in-None-clause-bottom : goal.returns-in-None-clause-bottom
returns-in-None-clause-bottom c = c.give_back.ensures.bottom

pub returns-in-None-clause-within : goal.returns-in-None-clause-within
returns-in-None-clause-within c =
    c.give_back.ensures.within (length c.args.state.now.held.objects) (rw c.in-Give.is at c.requires.control) c.requires.callers (record {
      site = c.requires.within.site;
      locals = c.requires.within.locals;
      tasks = (All-pop (TaskWithin (length c.args.state.now.held.objects)) c.args.activation.now.tasks.items c.pop.new.self.items c.pop.result c.pop.ensures.items c.requires.within.tasks).0;
    })

pub send-requires-clause-request : goal.send-requires-clause-request
send-requires-clause-request c = subst (λ (q : Request). RequestWithin (length c.args.state.now.held.objects) q) (sym c.into_inner-request.ensures) (rw c.in-Send.is at c.requires.control)

pub returns-in-Send-clause-goes : goal.returns-in-Send-clause-goes
returns-in-Send-clause-goes c model known =
    subst (λ (j : Control). Advances (λ k. unwound model c.args.basis.clock c.send.new.callers.items (coming model c.args.basis.clock c.send.new.activation c.send.new.state.held c.send.new.units k)) c.on-in-Send.result (memory_of c.send.new.activation c.send.new.state.held) c.send.new.units (unwound model c.args.basis.clock c.args.callers.now.items (coming model c.args.basis.clock c.args.activation.now c.args.state.now.held c.args.units.now j)))
    (sym c.in-Send.is)
    (subst (λ (q : Request). Advances (λ k. unwound model c.args.basis.clock c.send.new.callers.items (coming model c.args.basis.clock c.send.new.activation c.send.new.state.held c.send.new.units k)) c.on-in-Send.result (memory_of c.send.new.activation c.send.new.state.held) c.send.new.units (unwound model c.args.basis.clock c.args.callers.now.items (and_then (sent model c.args.basis.clock q.depth (place_of c.args.activation.now.site) q.receiver q.selector.now (sendings_view q.more.now) q.arguments.items (memory_of c.args.activation.now c.args.state.now.held) c.args.units.now) (pending model c.args.basis.clock (place_of c.args.activation.now.site) c.args.activation.now.tasks.items))))
    c.into_inner-request.ensures
    (advanced (λ k. unwound model c.args.basis.clock c.send.new.callers.items (coming model c.args.basis.clock c.send.new.activation c.send.new.state.held c.send.new.units k)) c.send.result c.on-in-Send.result (memory_of c.send.new.activation c.send.new.state.held) c.send.new.units (unwound model c.args.basis.clock c.args.callers.now.items (and_then (sent model c.args.basis.clock c.into_inner-request.result.depth (place_of c.args.activation.now.site) c.into_inner-request.result.receiver c.into_inner-request.result.selector.now (sendings_view c.into_inner-request.result.more.now) c.into_inner-request.result.arguments.items (memory_of c.args.activation.now c.args.state.now.held) c.args.units.now) (pending model c.args.basis.clock (place_of c.args.activation.now.site) c.args.activation.now.tasks.items))) c.on-in-Send.ensures (c.send.ensures.goes model known)))

pub returns-in-Send-clause-root : goal.returns-in-Send-clause-root
returns-in-Send-clause-root c = went_root (root c.send.new.callers.items (place_of c.send.new.activation.site) ≡ root c.args.callers.now.items (place_of c.args.activation.now.site)) c.send.result c.on-in-Send.result c.on-in-Send.ensures c.send.ensures.root

pub returns-in-Send-clause-bottom : goal.returns-in-Send-clause-bottom
returns-in-Send-clause-bottom c = went_bottom (c.send.new.callers.items ≡ []) c.send.result c.on-in-Send.result c.on-in-Send.ensures

pub returns-in-Send-clause-within : goal.returns-in-Send-clause-within
returns-in-Send-clause-within c =
    let n1 : ℕ = length c.send.new.state.held.objects in
    went_within (All (ActivationWithin n1) c.send.new.callers.items) (ActivationWithin n1 c.send.new.activation) n1 c.send.result c.on-in-Send.result c.on-in-Send.ensures c.send.ensures.within

pub returns-in-Leave-clause-goes : goal.returns-in-Leave-clause-goes
returns-in-Leave-clause-goes c model known =
    subst (λ (j : Control). Progresses (λ k. unwound model c.args.basis.clock c.give_result.new.callers.items (meant model c.args.basis.clock (place_of c.give_result.new.activation.site) c.give_result.new.activation.tasks.items k (memory_at c.give_result.new.activation.site c.args.state.now.held c.give_result.new.activation.locals.items) c.args.units.now)) c.give_result.result (memory_at c.give_result.new.activation.site c.args.state.now.held c.give_result.new.activation.locals.items) c.args.units.now (unwound model c.args.basis.clock c.args.callers.now.items (meant model c.args.basis.clock (place_of c.args.activation.now.site) c.args.activation.now.tasks.items j (memory_at c.args.activation.now.site c.args.state.now.held c.args.activation.now.locals.items) c.args.units.now)))
    (sym c.in-Leave.is)
    (c.give_result.ensures.goes model c.args.basis.clock c.args.state.now.held c.args.units.now)

pub returns-in-Leave-clause-root : goal.returns-in-Leave-clause-root
returns-in-Leave-clause-root c = c.give_result.ensures.root

pub returns-in-Leave-clause-bottom : goal.returns-in-Leave-clause-bottom
returns-in-Leave-clause-bottom c = c.give_result.ensures.bottom

pub returns-in-Leave-clause-within : goal.returns-in-Leave-clause-within
returns-in-Leave-clause-within c =
    c.give_result.ensures.within (length c.args.state.now.held.objects) (rw c.in-Leave.is at c.requires.control) c.requires.callers c.requires.within

pub returns-in-Evaluate-clause-falls : goal.returns-in-Evaluate-clause-falls
returns-in-Evaluate-clause-falls c =
    went_falls c.begin.result c.on.result (λ k. Falls c.args.units.now (total c.args.control c.args.activation.now c.args.callers.now.items) c.begin.new.units (total k c.begin.new.activation c.args.callers.now.items)) c.on.ensures
    (IfOk-weaker c.begin.result _ _
    (λ k h. falls_beside c.args.units.now (weight (view c.in-Evaluate.code.now) + tasks_weight c.args.activation.now.tasks.items) c.begin.new.units (load k c.begin.new.activation.tasks.items) (callers_weight c.args.callers.now.items) (total c.args.control c.args.activation.now c.args.callers.now.items)
    (omega (arith, ap control_weight c.in-Evaluate.is)) h) c.begin.ensures.falls)

pub returns-in-Some-clause-falls : goal.returns-in-Some-clause-falls
returns-in-Some-clause-falls c =
    let pushed : tasks_weight c.args.activation.now.tasks.items ≡ task_weight c.in-Some.task + tasks_weight c.pop.new.self.items =
    tasks_pushed c.pop.new.self.items c.args.activation.now.tasks.items c.in-Some.task (popped c.args.activation.now.tasks.items c.pop.new.self.items c.pop.result c.in-Some.task c.pop.ensures.items c.in-Some.is) in
    went_falls c.resume.result c.on-in-Some.result (λ k. Falls c.args.units.now (total c.args.control c.args.activation.now c.args.callers.now.items) c.resume.new.units (total k c.resume.new.activation c.args.callers.now.items)) c.on-in-Some.ensures
    (IfOk-weaker c.resume.result _ _
    (λ k h. falls_beside c.args.units.now (task_weight c.in-Some.task + tasks_weight c.pop.new.self.items) c.resume.new.units (load k c.resume.new.activation.tasks.items) (callers_weight c.args.callers.now.items) (total c.args.control c.args.activation.now c.args.callers.now.items)
    (omega (arith, ap control_weight c.in-Give.is, pushed)) h) c.resume.ensures.falls)

pub returns-in-None-clause-falls : goal.returns-in-None-clause-falls
returns-in-None-clause-falls c =
    on_weaker c.give_back.result (λ k. total k c.give_back.new.activation c.give_back.new.callers.items < callers_weight c.args.callers.now.items)
    (λ k. Falls c.args.units.now (total c.args.control c.args.activation.now c.args.callers.now.items) c.args.units.now (total k c.give_back.new.activation c.give_back.new.callers.items))
    (λ k h. inr (refl, omega (arith, h))) c.give_back.ensures.lighter

pub returns-in-Send-clause-falls : goal.returns-in-Send-clause-falls
returns-in-Send-clause-falls c =
    went_falls c.send.result c.on-in-Send.result (λ k. Falls c.args.units.now (total c.args.control c.args.activation.now c.args.callers.now.items) c.send.new.units (total k c.send.new.activation c.send.new.callers.items)) c.on-in-Send.ensures
    (counted_falls c.send.result c.args.units.now (total c.args.control c.args.activation.now c.args.callers.now.items) c.send.new.units (λ k. total k c.send.new.activation c.send.new.callers.items) c.send.ensures.counted)

pub returns-in-Leave-clause-falls : goal.returns-in-Leave-clause-falls
returns-in-Leave-clause-falls c =
    on_weaker c.give_result.result (λ k. total k c.give_result.new.activation c.give_result.new.callers.items < callers_weight c.args.callers.now.items)
    (λ k. Falls c.args.units.now (total c.args.control c.args.activation.now c.args.callers.now.items) c.args.units.now (total k c.give_result.new.activation c.give_result.new.callers.items))
    (λ k h. inr (refl, omega (arith, h))) c.give_result.ensures.lighter
