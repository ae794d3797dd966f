use Rattle.std.proofs.Common.{Option, List, Bor, Some, None, ◌+◌, length, ap, ◌∙◌, subst}
use Rattle.pz_classes_code.specs.declared.code.Code.{Code}
use Rattle.pz_classes_code.specs.CodeView.{view, list_view}
use Rattle.pz_eval_operations.specs.declared.task.Task.{Task}
use Rattle.pz_eval_operations.specs.declared.task.Task.TheVariants as task
use Rattle.pz_eval_operations.specs.devices.Sites.{place_of, memory_of}
use Rattle.pz_eval_operations.specs.devices.Within.{TaskWithin}
use Rattle.pz_eval_machine.specs.devices.Tasks.{pending, coming}
use Rattle.pz_eval_machine.specs.devices.Turns.{Turned, Fewer}
use Rattle.pz_eval_machine.specs.devices.Weights.{list_weight, tasks_weight, load}
use Rattle.pz_eval_machine.proofs.Going.{goes_same}
use Rattle.pz_eval_machine.proofs.Onward.{turns_more}
use Rattle.pz_eval_machine.proofs.Turning.{turn_left, turn_next, less_then, less_still}
use Rattle.pz_eval_machine.proofs.Within.{all_push}
use Rattle.pz_eval_machine.proofs.Weighing.{no_more_units}
use Rattle.pz_eval_machine.proofs.choosing.go_on_turns.Goals as goal

pub run_list-requires-clause-within : goal.run_list-requires-clause-within
run_list-requires-clause-within c =
    let there = c.quick_turns.ensures.within in
    record {
      site = there.site;
      locals = there.locals;
      tasks = all_push (TaskWithin (length c.quick_turns.new.state.held.objects)) c.quick_turns.new.activation.tasks.items c.add_task.new.tasks.items (task.Turn c.args.depth c.args.at c.args.test c.args.body) c.in_ok-add_task-in-Some.ensures there.tasks tt;
    }

pub returns-in_ok-add_task-in-Some-clause-goes : goal.returns-in_ok-add_task-in-Some-clause-goes
returns-in_ok-add_task-in-Some-clause-goes c model now =
    goes_same (coming model now c.run_list.new.activation c.run_list.new.state.held c.run_list.new.units) c.run_list.result c.run_list.new.units
    (turn_left model now c.args.depth (place_of c.args.activation.now.site) (place_of c.quick_turns.new.activation.site) c.args.at c.args.test c.args.body (memory_of c.args.activation.now c.args.state.now.held) (memory_of c.quick_turns.new.activation c.quick_turns.new.state.held) c.args.units.now c.quick_turns.new.units c.args.activation.now.tasks.items c.quick_turns.new.activation.tasks.items
    (ap place_of c.quick_turns.ensures.site) (ap (λ ts. ts.items) c.quick_turns.ensures.tasks) c.in-Some.left c.add_task.new.tasks.items
    (subst (λ (o : Option (Bor (List Code))). Turned model now c.args.depth (place_of c.args.activation.now.site) c.args.at (view c.args.test.now) (list_view c.args.body.now) (memory_of c.args.activation.now c.args.state.now.held) c.args.units.now (memory_of c.quick_turns.new.activation c.quick_turns.new.state.held) c.quick_turns.new.units o) c.in-Some.is (c.in_ok-found.ensures.goes c.turns_go_on.ensures.law model now c.args.at))
    c.in_ok-add_task-in-Some.ensures)
    (c.run_list.ensures.goes model now)

pub returns-in_ok-add_task-in-Some-clause-counted : goal.returns-in_ok-add_task-in-Some-clause-counted
returns-in_ok-add_task-in-Some-clause-counted c =
    less_then c.run_list.result c.args.units.now c.quick_turns.new.units c.run_list.new.units
    (subst (λ (o : Option (Bor (List Code))). Fewer c.args.units.now c.quick_turns.new.units o) c.in-Some.is c.in_ok-found.ensures.units)
    (no_more_units c.run_list.result c.quick_turns.new.units c.run_list.new.units (list_weight (list_view c.in-Some.left.now) + tasks_weight c.add_task.new.tasks.items) (λ k. load k c.run_list.new.activation.tasks.items) c.run_list.ensures.weighs)

pub returns-in-None-clause-goes : goal.returns-in-None-clause-goes
returns-in-None-clause-goes c model now =
    goes_same (coming model now c.begin_turn.new.activation c.begin_turn.new.state.held c.begin_turn.new.units) c.begin_turn.result c.begin_turn.new.units
    (turns_more c.turns_go_on.ensures.law model now c.args.depth (place_of c.quick_turns.new.activation.site) c.args.at c.args.test c.args.body (memory_of c.quick_turns.new.activation c.quick_turns.new.state.held) c.quick_turns.new.units (pending model now (place_of c.quick_turns.new.activation.site) c.quick_turns.new.activation.tasks.items)
    ∙ turn_next model now c.args.depth (place_of c.args.activation.now.site) (place_of c.quick_turns.new.activation.site) c.args.at c.args.test c.args.body (memory_of c.args.activation.now c.args.state.now.held) (memory_of c.quick_turns.new.activation c.quick_turns.new.state.held) c.args.units.now c.quick_turns.new.units c.args.activation.now.tasks.items c.quick_turns.new.activation.tasks.items
    (ap place_of c.quick_turns.ensures.site) (ap (λ ts. ts.items) c.quick_turns.ensures.tasks)
    (subst (λ (o : Option (Bor (List Code))). Turned model now c.args.depth (place_of c.args.activation.now.site) c.args.at (view c.args.test.now) (list_view c.args.body.now) (memory_of c.args.activation.now c.args.state.now.held) c.args.units.now (memory_of c.quick_turns.new.activation c.quick_turns.new.state.held) c.quick_turns.new.units o) c.in-None.is (c.in_ok-found.ensures.goes c.turns_go_on.ensures.law model now c.args.at)))
    (c.begin_turn.ensures.goes model now)

pub returns-in-None-clause-counted : goal.returns-in-None-clause-counted
returns-in-None-clause-counted c =
    less_still c.begin_turn.result c.args.units.now c.quick_turns.new.units c.begin_turn.new.units
    (subst (λ (o : Option (Bor (List Code))). Fewer c.args.units.now c.quick_turns.new.units o) c.in-None.is c.in_ok-found.ensures.units)
    c.begin_turn.ensures.counted
