use Rattle.std.proofs.Common.{◌+◌, length, inr, arith}
use Rattle.std.proofs.lemmas.Result.{IfOk-weaker}
use Rattle.pz_classes_code.specs.CodeView.{view}
use Rattle.pz_eval_operations.specs.pz_eval_rules.devices.Computed.{operators, evaluated}
use Rattle.pz_eval_operations.specs.devices.Sites.{place_of, memory_at, memory_of}
use Rattle.pz_eval_operations.specs.devices.Views.{links_view}
use Rattle.pz_eval_machine.specs.devices.Tasks.{pending, meant, coming}
use Rattle.pz_eval_machine.specs.devices.Weights.{links_weight, tasks_weight, load}
use Rattle.pz_eval_machine.proofs.Going.{goes_same}
use Rattle.pz_eval_machine.proofs.Weighing.{no_more_falls}
use Rattle.pz_eval_machine.proofs.AtOnce.{found_on, waits_on}
use Rattle.pz_eval_machine.proofs.beginning.begin_chain.Goals as goal

pub go_on_operators-requires-clause-left : goal.go_on_operators-requires-clause-left
go_on_operators-requires-clause-left c = c.in-Some.ensures.within c.requires

pub returns-in-Some-clause-goes : goal.returns-in-Some-clause-goes
returns-in-Some-clause-goes c model now =
    goes_same (coming model now c.go_on_operators.new.activation c.go_on_operators.new.state.held c.go_on_operators.new.units) c.go_on_operators.result c.go_on_operators.new.units
    (found_on (evaluated model now c.args.depth (place_of c.args.activation.now.site) (view c.args.first.now)) (λ y. operators model now (evaluated model now c.args.depth) (place_of c.args.activation.now.site) y (links_view c.args.links.now)) (memory_of c.args.activation.now c.args.state.now.held) (pending model now (place_of c.args.activation.now.site) c.args.activation.now.tasks.items) c.in-Some.left c.args.units.now c.at_once.new.units (c.in-Some.ensures.finds.1 model now))
    (c.go_on_operators.ensures.goes model now)

pub returns-in-Some-clause-falls : goal.returns-in-Some-clause-falls
returns-in-Some-clause-falls c =
    IfOk-weaker c.go_on_operators.result _ _ (λ k h. no_more_falls c.args.units.now c.at_once.new.units (links_weight (links_view c.args.links.now) + tasks_weight c.args.activation.now.tasks.items) _ c.go_on_operators.new.units (load k c.go_on_operators.new.activation.tasks.items) c.in-Some.ensures.finds.0 h) c.go_on_operators.ensures.weighs

pub returns-in-None-clause-goes : goal.returns-in-None-clause-goes
returns-in-None-clause-goes c model now =
    goes_same (λ k. meant model now (place_of c.args.activation.now.site) c.descend.new.tasks.items k (memory_at c.args.activation.now.site c.args.state.now.held c.args.activation.now.locals.items) c.at_once.new.units) c.descend.result c.at_once.new.units
    (waits_on (evaluated model now c.args.depth (place_of c.args.activation.now.site) (view c.args.first.now)) (λ y. operators model now (evaluated model now c.args.depth) (place_of c.args.activation.now.site) y (links_view c.args.links.now)) (memory_of c.args.activation.now c.args.state.now.held) (pending model now (place_of c.args.activation.now.site) c.args.activation.now.tasks.items) c.args.units.now c.at_once.new.units c.in-None.ensures.finds)
    (c.descend.ensures.goes model now (place_of c.args.activation.now.site) (memory_of c.args.activation.now c.args.state.now.held) c.at_once.new.units)

pub returns-in-None-clause-within : goal.returns-in-None-clause-within
returns-in-None-clause-within c =
    IfOk-weaker c.descend.result _ _
    (λ k kept. let tasks = kept (length c.args.state.now.held.objects) tt c.requires.tasks in (record { site = c.requires.site; locals = c.requires.locals; tasks = tasks.0 }, tasks.1)) c.descend.ensures.within

pub returns-in-None-clause-falls : goal.returns-in-None-clause-falls
returns-in-None-clause-falls c = IfOk-weaker c.descend.result _ _ (λ k e. inr (c.in-None.ensures.finds, omega (arith, e))) c.descend.ensures.weighs
