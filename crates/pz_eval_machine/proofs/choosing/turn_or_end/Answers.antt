use Rattle.std.proofs.Common.{length, ◌+◌, arith}
use Rattle.std.proofs.lemmas.Result.{IfOk-weaker}
use Rattle.pz_classes_code.specs.CodeView.{view, list_view}
use Rattle.pz_eval_operations.specs.pz_eval_rules.devices.Computed.{going, evaluated}
use Rattle.pz_eval_operations.specs.declared.task.Task.TheVariants as task
use Rattle.pz_eval_operations.specs.devices.Sites.{place_of, memory_of}
use Rattle.pz_eval_operations.specs.devices.Within.{TaskWithin}
use Rattle.pz_eval_machine.specs.devices.Tasks.{turning, pending, coming}
use Rattle.pz_eval_machine.specs.devices.Weights.{list_weight, tasks_weight}
use Rattle.pz_eval_machine.proofs.Going.{goes_same}
use Rattle.pz_eval_machine.proofs.Onward.{not_tested, turn_ends, turn_goes}
use Rattle.pz_eval_machine.proofs.Within.{all_push}
use Rattle.pz_eval_machine.proofs.Weighing.{tasks_pushed, no_more_below}
use Rattle.pz_eval_machine.proofs.choosing.turn_or_end.Goals as goal

pub returns-in_default-clause-goes : goal.returns-in_default-clause-goes
returns-in_default-clause-goes c model now =
    not_tested c.args.value c.in_default.not-Bool c.args.at
    (going model now (evaluated model now c.args.depth) (place_of c.args.activation.now.site) (list_view c.args.body.now) (turning model now c.args.depth (place_of c.args.activation.now.site) c.args.at (view c.args.test.now) (list_view c.args.body.now)))
    (memory_of c.args.activation.now c.args.state.now.held) c.args.units.now (pending model now (place_of c.args.activation.now.site) c.args.activation.now.tasks.items)

pub returns-then-not-goes-clause-goes : goal.returns-then-not-goes-clause-goes
returns-then-not-goes-clause-goes c model now =
    turn_ends model now c.args.depth (place_of c.args.activation.now.site) c.args.at (memory_of c.args.activation.now c.args.state.now.held) c.args.units.now (pending model now (place_of c.args.activation.now.site) c.args.activation.now.tasks.items) c.args.value c.in-Bool.goes
    (list_view c.args.body.now) (turning model now c.args.depth (place_of c.args.activation.now.site) c.args.at (view c.args.test.now) (list_view c.args.body.now)) c.in-Bool.is c.if-not-goes.true

pub run_list-requires-clause-within : goal.run_list-requires-clause-within
run_list-requires-clause-within c = record {
  site = c.requires.site;
  locals = c.requires.locals;
  tasks = all_push (TaskWithin (length c.args.state.now.held.objects)) c.args.activation.now.tasks.items c.add_task.new.tasks.items (task.Turn c.args.depth c.args.at c.args.test c.args.body) c.in_ok-add_task.ensures c.requires.tasks tt;
}

pub returns-clause-goes : goal.returns-clause-goes
returns-clause-goes c model now =
    goes_same (coming model now c.run_list.new.activation c.run_list.new.state.held c.run_list.new.units) c.run_list.result c.run_list.new.units
    (turn_goes model now c.args.depth (place_of c.args.activation.now.site) c.args.at c.args.test c.args.body (memory_of c.args.activation.now c.args.state.now.held) c.args.units.now c.args.value c.in-Bool.goes c.args.activation.now.tasks.items c.add_task.new.tasks.items c.in-Bool.is c.if-not-goes.false c.in_ok-add_task.ensures)
    (c.run_list.ensures.goes model now)

pub returns-clause-weighs : goal.returns-clause-weighs
returns-clause-weighs c =
    IfOk-weaker c.run_list.result _ _
    (λ k e. no_more_below c.args.units.now (list_weight (list_view c.args.body.now) + tasks_weight c.args.activation.now.tasks.items) (list_weight (list_view c.args.body.now) + tasks_weight c.add_task.new.tasks.items) c.run_list.new.units _
    (omega (arith, tasks_pushed c.args.activation.now.tasks.items c.add_task.new.tasks.items (task.Turn c.args.depth c.args.at c.args.test c.args.body) c.in_ok-add_task.ensures)) e) c.run_list.ensures.weighs
