use Rattle.std.proofs.Common.{length, ◌+◌}
use Rattle.std.proofs.lemmas.Result.{IfOk-weaker}
use Rattle.pz_classes_code.specs.CodeView.{view, list_view}
use Rattle.pz_eval_operations.specs.pz_eval_rules.devices.Computed.{evaluated}
use Rattle.pz_eval_operations.specs.declared.task.Task.TheVariants as task
use Rattle.pz_eval_operations.specs.devices.Sites.{place_of, memory_at, memory_of}
use Rattle.pz_eval_machine.specs.devices.Tasks.{resumed, pending, meant, coming}
use Rattle.pz_eval_machine.specs.devices.Weights.{list_weight, tasks_weight, load}
use Rattle.pz_eval_machine.proofs.Going.{goes_same}
use Rattle.pz_eval_machine.proofs.AtOnce.{found_counted, waits_counted, one_fewer, fewer_then}
use Rattle.pz_eval_machine.proofs.Weighing.{no_more_units}
use Rattle.pz_eval_machine.proofs.choosing.begin_turn.Goals as goal

pub returns-in-Some-clause-goes : goal.returns-in-Some-clause-goes
returns-in-Some-clause-goes c model now =
    goes_same (coming model now c.turn_or_end.new.activation c.turn_or_end.new.state.held c.turn_or_end.new.units) c.turn_or_end.result c.turn_or_end.new.units
    (found_counted (evaluated model now c.args.depth (place_of c.args.activation.now.site) (view c.args.test.now)) (resumed model now (place_of c.args.activation.now.site) (task.Test c.args.depth c.args.at c.args.test c.args.body)) (memory_of c.args.activation.now c.args.state.now.held) (pending model now (place_of c.args.activation.now.site) c.args.activation.now.tasks.items) c.in-Some.value c.args.units.now c.tick.new.units c.at_once.new.units c.in_ok-tick.ensures (c.in-Some.ensures.finds.1 model now))
    (c.turn_or_end.ensures.goes model now)

pub returns-in-Some-clause-counted : goal.returns-in-Some-clause-counted
returns-in-Some-clause-counted c =
    fewer_then c.turn_or_end.result c.args.units.now c.tick.new.units c.at_once.new.units c.turn_or_end.new.units c.in_ok-tick.ensures c.in-Some.ensures.finds.0
    (no_more_units c.turn_or_end.result c.at_once.new.units c.turn_or_end.new.units (list_weight (list_view c.args.body.now) + tasks_weight c.args.activation.now.tasks.items) (λ k. load k c.turn_or_end.new.activation.tasks.items) c.turn_or_end.ensures.weighs)

pub returns-in-None-clause-goes : goal.returns-in-None-clause-goes
returns-in-None-clause-goes c model now =
    goes_same (λ k. meant model now (place_of c.args.activation.now.site) c.descend.new.tasks.items k (memory_at c.args.activation.now.site c.args.state.now.held c.args.activation.now.locals.items) c.at_once.new.units) c.descend.result c.at_once.new.units
    (waits_counted (evaluated model now c.args.depth (place_of c.args.activation.now.site) (view c.args.test.now)) (resumed model now (place_of c.args.activation.now.site) (task.Test c.args.depth c.args.at c.args.test c.args.body)) (memory_of c.args.activation.now c.args.state.now.held) (pending model now (place_of c.args.activation.now.site) c.args.activation.now.tasks.items) c.args.units.now c.tick.new.units c.at_once.new.units c.in_ok-tick.ensures c.in-None.ensures.finds)
    (c.descend.ensures.goes model now (place_of c.args.activation.now.site) (memory_of c.args.activation.now c.args.state.now.held) c.at_once.new.units)

pub returns-in-None-clause-within : goal.returns-in-None-clause-within
returns-in-None-clause-within c =
    IfOk-weaker c.descend.result _ _
    (λ k kept. let tasks = kept (length c.args.state.now.held.objects) tt c.requires.tasks in (record { site = c.requires.site; locals = c.requires.locals; tasks = tasks.0 }, tasks.1)) c.descend.ensures.within

pub returns-in-None-clause-counted : goal.returns-in-None-clause-counted
returns-in-None-clause-counted c = one_fewer c.descend.result c.args.units.now c.tick.new.units c.at_once.new.units c.in_ok-tick.ensures c.in-None.ensures.finds
