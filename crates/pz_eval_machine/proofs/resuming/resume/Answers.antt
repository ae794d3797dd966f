use Rattle.std.proofs.Common.{ap, sym, subst, ℕ, length}
use Rattle.std.specs.Prelude.{All}
use Rattle.std.proofs.lemmas.Result.{IfOk-weaker}
use Rattle.pz_state.specs.References.{RefersWithin}
use Rattle.pz_eval_operations.specs.pz_eval_rules.devices.Computed.{and_then}
use Rattle.pz_eval_operations.specs.declared.task.Task.{Task}
use Rattle.pz_eval_operations.specs.devices.Sites.{place_of, locals_at, memory_at}
use Rattle.pz_eval_machine.specs.devices.Tasks.{resumed, pending, meant, coming}
use Rattle.pz_eval_operations.specs.devices.Within.{SiteWithin, TaskWithin}
use Rattle.pz_eval_machine.proofs.Going.{goes_same}
use Rattle.std.proofs.Common.{◌+◌, refl, inr, arith}
use Rattle.pz_classes_code.specs.CodeView.{list_view, part_view}
use Rattle.pz_eval_operations.specs.devices.Views.{links_view, sendings_view}
use Rattle.pz_eval_machine.specs.devices.Weights.{list_weight, part_weight, links_weight, sendings_weight, task_weight, tasks_weight, load}
use Rattle.pz_eval_machine.proofs.Weighing.{counted_falls, lighter, resumed_falls, given_lighter}
use Rattle.pz_eval_machine.proofs.resuming.resume.Goals as goal

pub returns-in-Sequence-clause-goes : goal.returns-in-Sequence-clause-goes
returns-in-Sequence-clause-goes c model now =
    goes_same (coming model now c.run_list.new.activation c.run_list.new.state.held c.run_list.new.units) c.run_list.result c.run_list.new.units
    (sym (ap (λ (j : Task). and_then (resumed model now (place_of c.args.activation.now.site) j c.args.value (memory_at c.args.activation.now.site c.args.state.now.held c.args.activation.now.locals.items) c.args.units.now) (pending model now (place_of c.args.activation.now.site) c.args.activation.now.tasks.items)) c.in-Sequence.is))
    (c.run_list.ensures.goes model now)

pub returns-in-Operators-clause-goes : goal.returns-in-Operators-clause-goes
returns-in-Operators-clause-goes c model now =
    goes_same (coming model now c.go_on_operators.new.activation c.go_on_operators.new.state.held c.go_on_operators.new.units) c.go_on_operators.result c.go_on_operators.new.units
    (sym (ap (λ (j : Task). and_then (resumed model now (place_of c.args.activation.now.site) j c.args.value (memory_at c.args.activation.now.site c.args.state.now.held c.args.activation.now.locals.items) c.args.units.now) (pending model now (place_of c.args.activation.now.site) c.args.activation.now.tasks.items)) c.in-Operators.is))
    (c.go_on_operators.ensures.goes model now)

pub returns-in-Selectors-clause-goes : goal.returns-in-Selectors-clause-goes
returns-in-Selectors-clause-goes c model now =
    goes_same (coming model now c.go_on_selectors.new.activation c.args.state.now.held c.go_on_selectors.new.units) c.go_on_selectors.result c.go_on_selectors.new.units
    (sym (ap (λ (j : Task). and_then (resumed model now (place_of c.args.activation.now.site) j c.args.value (memory_at c.args.activation.now.site c.args.state.now.held c.args.activation.now.locals.items) c.args.units.now) (pending model now (place_of c.args.activation.now.site) c.args.activation.now.tasks.items)) c.in-Selectors.is))
    (c.go_on_selectors.ensures.goes model now)

pub returns-in-Argument-clause-goes : goal.returns-in-Argument-clause-goes
returns-in-Argument-clause-goes c model now =
    goes_same (coming model now c.take_argument.new.activation c.args.state.now.held c.take_argument.new.units) c.take_argument.result c.take_argument.new.units
    (sym (ap (λ (j : Task). and_then (resumed model now (place_of c.args.activation.now.site) j c.args.value (memory_at c.args.activation.now.site c.args.state.now.held c.args.activation.now.locals.items) c.args.units.now) (pending model now (place_of c.args.activation.now.site) c.args.activation.now.tasks.items)) c.in-Argument.is))
    (c.take_argument.ensures.goes model now)

pub take_argument-requires-clause-request : goal.take_argument-requires-clause-request
take_argument-requires-clause-request c = rw c.in-Argument.is at c.requires.task

pub returns-in-If-clause-goes : goal.returns-in-If-clause-goes
returns-in-If-clause-goes c model now =
    goes_same (λ k. meant model now (place_of c.args.activation.now.site) c.choose.new.tasks.items k (memory_at c.args.activation.now.site c.args.state.now.held c.args.activation.now.locals.items) c.args.units.now) c.choose.result c.args.units.now
    (sym (ap (λ (j : Task). and_then (resumed model now (place_of c.args.activation.now.site) j c.args.value (memory_at c.args.activation.now.site c.args.state.now.held c.args.activation.now.locals.items) c.args.units.now) (pending model now (place_of c.args.activation.now.site) c.args.activation.now.tasks.items)) c.in-If.is))
    (c.choose.ensures.goes model now (place_of c.args.activation.now.site) (memory_at c.args.activation.now.site c.args.state.now.held c.args.activation.now.locals.items) c.args.units.now)

pub returns-in-If-clause-within : goal.returns-in-If-clause-within
returns-in-If-clause-within c =
    IfOk-weaker c.choose.result _ _
    (λ k kept. let tasks = kept (length c.args.state.now.held.objects) c.requires.within.tasks in (record { site = c.requires.within.site; locals = c.requires.within.locals; tasks = tasks.0 }, tasks.1)) c.choose.ensures.within

pub returns-in-Test-clause-goes : goal.returns-in-Test-clause-goes
returns-in-Test-clause-goes c model now =
    goes_same (coming model now c.turn_or_end.new.activation c.turn_or_end.new.state.held c.turn_or_end.new.units) c.turn_or_end.result c.turn_or_end.new.units
    (sym (ap (λ (j : Task). and_then (resumed model now (place_of c.args.activation.now.site) j c.args.value (memory_at c.args.activation.now.site c.args.state.now.held c.args.activation.now.locals.items) c.args.units.now) (pending model now (place_of c.args.activation.now.site) c.args.activation.now.tasks.items)) c.in-Test.is))
    (c.turn_or_end.ensures.goes model now)

pub returns-in-Operand-clause-goes : goal.returns-in-Operand-clause-goes
returns-in-Operand-clause-goes c model now =
    goes_same (λ k. meant model now (place_of c.args.activation.now.site) c.operate.new.tasks.items k (memory_at c.args.activation.now.site c.operate.new.state.held c.args.activation.now.locals.items) c.operate.new.units) c.operate.result c.operate.new.units
    (sym (ap (λ (j : Task). and_then (resumed model now (place_of c.args.activation.now.site) j c.args.value (memory_at c.args.activation.now.site c.args.state.now.held c.args.activation.now.locals.items) c.args.units.now) (pending model now (place_of c.args.activation.now.site) c.args.activation.now.tasks.items)) c.in-Operand.is))
    (c.operate.ensures.goes model now (place_of c.args.activation.now.site) (locals_at c.args.activation.now.site c.args.activation.now.locals.items))

pub operate-requires-clause-left : goal.operate-requires-clause-left
operate-requires-clause-left c = rw c.in-Operand.is at c.requires.task

pub returns-in-Operand-clause-within : goal.returns-in-Operand-clause-within
returns-in-Operand-clause-within c =
    IfOk-weaker c.operate.result _ _
    (λ k kept. let tasks = kept c.requires.within.tasks in (
      record {
        site = subst (λ (n : ℕ). SiteWithin n c.args.activation.now.site) (sym c.operate.ensures.count) c.requires.within.site;
        locals = subst (λ (n : ℕ). All (RefersWithin n) c.args.activation.now.locals.items) (sym c.operate.ensures.count) c.requires.within.locals;
        tasks = tasks.0;
      },
      tasks.1,
    )) c.operate.ensures.within

pub returns-in-Unary-clause-goes : goal.returns-in-Unary-clause-goes
returns-in-Unary-clause-goes c model now =
    goes_same (λ k. meant model now (place_of c.args.activation.now.site) c.args.activation.now.tasks.items k (memory_at c.args.activation.now.site c.operate_alone.new.state.held c.args.activation.now.locals.items) c.args.units.now) c.operate_alone.result c.args.units.now
    (sym (ap (λ (j : Task). and_then (resumed model now (place_of c.args.activation.now.site) j c.args.value (memory_at c.args.activation.now.site c.args.state.now.held c.args.activation.now.locals.items) c.args.units.now) (pending model now (place_of c.args.activation.now.site) c.args.activation.now.tasks.items)) c.in-Unary.is))
    (c.operate_alone.ensures.goes model now (place_of c.args.activation.now.site) c.args.activation.now.tasks.items (locals_at c.args.activation.now.site c.args.activation.now.locals.items) c.args.units.now)

pub returns-in-Unary-clause-within : goal.returns-in-Unary-clause-within
returns-in-Unary-clause-within c =
    IfOk-weaker c.operate_alone.result _ _
    (λ k here. (
      record {
        site = subst (λ (n : ℕ). SiteWithin n c.args.activation.now.site) (sym c.operate_alone.ensures.count) c.requires.within.site;
        locals = subst (λ (n : ℕ). All (RefersWithin n) c.args.activation.now.locals.items) (sym c.operate_alone.ensures.count) c.requires.within.locals;
        tasks = subst (λ (n : ℕ). All (TaskWithin n) c.args.activation.now.tasks.items) (sym c.operate_alone.ensures.count) c.requires.within.tasks;
      },
      here,
    )) c.operate_alone.ensures.within

pub returns-in-Assign-clause-goes : goal.returns-in-Assign-clause-goes
returns-in-Assign-clause-goes c model now =
    goes_same (λ k. meant model now (place_of c.assign.new.activation.site) c.assign.new.activation.tasks.items k (memory_at c.assign.new.activation.site c.assign.new.state.held c.assign.new.activation.locals.items) c.args.units.now) c.assign.result c.args.units.now
    (sym (ap (λ (j : Task). and_then (resumed model now (place_of c.args.activation.now.site) j c.args.value (memory_at c.args.activation.now.site c.args.state.now.held c.args.activation.now.locals.items) c.args.units.now) (pending model now (place_of c.args.activation.now.site) c.args.activation.now.tasks.items)) c.in-Assign.is))
    (c.assign.ensures.goes model now c.args.units.now)

pub returns-in-Return-clause-goes : goal.returns-in-Return-clause-goes
returns-in-Return-clause-goes c model now = sym (ap (λ (j : Task). and_then (resumed model now (place_of c.args.activation.now.site) j c.args.value (memory_at c.args.activation.now.site c.args.state.now.held c.args.activation.now.locals.items) c.args.units.now) (pending model now (place_of c.args.activation.now.site) c.args.activation.now.tasks.items)) c.in-Return.is)

pub returns-in-Return-clause-within : goal.returns-in-Return-clause-within
returns-in-Return-clause-within c = (c.requires.within, c.requires.value)

pub returns-in-Turn-clause-goes : goal.returns-in-Turn-clause-goes
returns-in-Turn-clause-goes c model now =
    goes_same (coming model now c.go_on_turns.new.activation c.go_on_turns.new.state.held c.go_on_turns.new.units) c.go_on_turns.result c.go_on_turns.new.units
    (sym (ap (λ (j : Task). and_then (resumed model now (place_of c.args.activation.now.site) j c.args.value (memory_at c.args.activation.now.site c.args.state.now.held c.args.activation.now.locals.items) c.args.units.now) (pending model now (place_of c.args.activation.now.site) c.args.activation.now.tasks.items)) c.in-Turn.is))
    (c.go_on_turns.ensures.goes model now)

pub returns-in-Sequence-clause-falls : goal.returns-in-Sequence-clause-falls
returns-in-Sequence-clause-falls c =
    resumed_falls c.run_list.result c.args.task c.args.units.now c.run_list.new.units (list_weight (list_view c.in-Sequence.rest.now)) c.args.activation.now.tasks.items c.run_list.new.activation.tasks.items (ap task_weight c.in-Sequence.is) c.run_list.ensures.weighs

pub returns-in-Operators-clause-falls : goal.returns-in-Operators-clause-falls
returns-in-Operators-clause-falls c =
    resumed_falls c.go_on_operators.result c.args.task c.args.units.now c.go_on_operators.new.units (links_weight (links_view c.in-Operators.links.now)) c.args.activation.now.tasks.items c.go_on_operators.new.activation.tasks.items (ap task_weight c.in-Operators.is) c.go_on_operators.ensures.weighs

pub returns-in-Selectors-clause-falls : goal.returns-in-Selectors-clause-falls
returns-in-Selectors-clause-falls c =
    resumed_falls c.go_on_selectors.result c.args.task c.args.units.now c.go_on_selectors.new.units (sendings_weight (sendings_view c.in-Selectors.sendings.now)) c.args.activation.now.tasks.items c.go_on_selectors.new.activation.tasks.items (ap task_weight c.in-Selectors.is) c.go_on_selectors.ensures.weighs

pub returns-in-Argument-clause-falls : goal.returns-in-Argument-clause-falls
returns-in-Argument-clause-falls c =
    resumed_falls c.take_argument.result c.args.task c.args.units.now c.take_argument.new.units (list_weight (list_view c.in-Argument.rest.now)) c.args.activation.now.tasks.items c.take_argument.new.activation.tasks.items (ap task_weight c.in-Argument.is) c.take_argument.ensures.weighs

pub returns-in-If-clause-falls : goal.returns-in-If-clause-falls
returns-in-If-clause-falls c =
    lighter c.choose.result c.args.task c.args.units.now (list_weight (list_view c.in-If.part.now) + part_weight (part_view c.in-If.other.now)) c.args.activation.now.tasks.items c.choose.new.tasks.items (ap task_weight c.in-If.is) c.choose.ensures.weighs

pub returns-in-Test-clause-falls : goal.returns-in-Test-clause-falls
returns-in-Test-clause-falls c =
    resumed_falls c.turn_or_end.result c.args.task c.args.units.now c.turn_or_end.new.units (list_weight (list_view c.in-Test.body.now)) c.args.activation.now.tasks.items c.turn_or_end.new.activation.tasks.items (ap task_weight c.in-Test.is) c.turn_or_end.ensures.weighs

pub returns-in-Operand-clause-falls : goal.returns-in-Operand-clause-falls
returns-in-Operand-clause-falls c =
    counted_falls c.operate.result c.args.units.now (task_weight c.args.task + tasks_weight c.args.activation.now.tasks.items) c.operate.new.units (λ k. load k c.operate.new.tasks.items) c.operate.ensures.counted

pub returns-in-Turn-clause-falls : goal.returns-in-Turn-clause-falls
returns-in-Turn-clause-falls c =
    counted_falls c.go_on_turns.result c.args.units.now (task_weight c.args.task + tasks_weight c.args.activation.now.tasks.items) c.go_on_turns.new.units (λ k. load k c.go_on_turns.new.activation.tasks.items) c.go_on_turns.ensures.counted

pub returns-in-Unary-clause-falls : goal.returns-in-Unary-clause-falls
returns-in-Unary-clause-falls c = given_lighter c.operate_alone.result c.args.task c.args.units.now c.args.activation.now.tasks.items (ap task_weight c.in-Unary.is) c.operate_alone.ensures.weighs

pub returns-in-Assign-clause-falls : goal.returns-in-Assign-clause-falls
returns-in-Assign-clause-falls c = IfOk-weaker c.assign.result _ _ (λ k e. inr (refl, omega (arith, e, ap task_weight c.in-Assign.is))) c.assign.ensures.weighs

pub returns-in-Return-clause-falls : goal.returns-in-Return-clause-falls
returns-in-Return-clause-falls c = inr (refl, omega (arith, ap task_weight c.in-Return.is))
