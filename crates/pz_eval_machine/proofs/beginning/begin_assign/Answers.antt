use Rattle.std.proofs.Common.{length}
use Rattle.std.proofs.lemmas.Result.{IfOk-weaker}
use Rattle.pz_classes_code.specs.CodeView.{view}
use Rattle.pz_eval_operations.specs.pz_eval_rules.devices.Computed.{done, evaluated}
use Rattle.pz_eval_operations.specs.devices.Sites.{place_of, memory_at, memory_of}
use Rattle.pz_eval_machine.specs.devices.Tasks.{pending, meant, coming}
use Rattle.pz_eval_machine.proofs.Going.{goes_same}
use Rattle.pz_eval_operations.specs.pz_eval_rules.Memories.{write}
use Rattle.pz_eval_operations.specs.pz_eval_rules.Answers.{gives}
use Rattle.pz_eval_machine.proofs.AtOnce.{found_counted, waits_counted, fewer, one_fewer}
use Rattle.pz_eval_machine.proofs.beginning.begin_assign.Goals as goal

pub assign-requires-clause-value : goal.assign-requires-clause-value
assign-requires-clause-value c = c.in-Some.ensures.within c.requires

pub returns-in-Some-clause-goes : goal.returns-in-Some-clause-goes
returns-in-Some-clause-goes c model now =
    goes_same (coming model now c.assign.new.activation c.assign.new.state.held c.at_once.new.units) c.assign.result c.at_once.new.units
    (found_counted (evaluated model now c.args.depth (place_of c.args.activation.now.site) (view c.args.code.now)) (λ y m1 r1. done (gives y (write (place_of c.args.activation.now.site) c.args.slot y m1)) r1) (memory_of c.args.activation.now c.args.state.now.held) (pending model now (place_of c.args.activation.now.site) c.args.activation.now.tasks.items) c.in-Some.value c.args.units.now c.tick.new.units c.at_once.new.units c.in_ok-tick.ensures (c.in-Some.ensures.finds.1 model now))
    (c.assign.ensures.goes model now c.at_once.new.units)

pub returns-in-Some-clause-counted : goal.returns-in-Some-clause-counted
returns-in-Some-clause-counted c = fewer c.assign.result c.args.units.now c.tick.new.units c.at_once.new.units c.in_ok-tick.ensures c.in-Some.ensures.finds.0

pub returns-in-None-clause-goes : goal.returns-in-None-clause-goes
returns-in-None-clause-goes c model now =
    goes_same (λ k. meant model now (place_of c.args.activation.now.site) c.descend.new.tasks.items k (memory_at c.args.activation.now.site c.args.state.now.held c.args.activation.now.locals.items) c.at_once.new.units) c.descend.result c.at_once.new.units
    (waits_counted (evaluated model now c.args.depth (place_of c.args.activation.now.site) (view c.args.code.now)) (λ y m1 r1. done (gives y (write (place_of c.args.activation.now.site) c.args.slot y m1)) r1) (memory_of c.args.activation.now c.args.state.now.held) (pending model now (place_of c.args.activation.now.site) c.args.activation.now.tasks.items) c.args.units.now c.tick.new.units c.at_once.new.units c.in_ok-tick.ensures c.in-None.ensures.finds)
    (c.descend.ensures.goes model now (place_of c.args.activation.now.site) (memory_of c.args.activation.now c.args.state.now.held) c.at_once.new.units)

pub returns-in-None-clause-within : goal.returns-in-None-clause-within
returns-in-None-clause-within c =
    IfOk-weaker c.descend.result _ _
    (λ k kept. let tasks = kept (length c.args.state.now.held.objects) tt c.requires.tasks in (record { site = c.requires.site; locals = c.requires.locals; tasks = tasks.0 }, tasks.1)) c.descend.ensures.within

pub returns-in-None-clause-counted : goal.returns-in-None-clause-counted
returns-in-None-clause-counted c = one_fewer c.descend.result c.args.units.now c.tick.new.units c.at_once.new.units c.in_ok-tick.ensures c.in-None.ensures.finds
