use Rattle.pz_classes_code.specs.CodeView.{view}
use Rattle.pz_eval_operations.specs.pz_eval_rules.devices.Computed.{evaluated}
use Rattle.pz_eval_machine.proofs.Going.{then_pending}
use Rattle.std.proofs.Common.{ℕ, ◌+◌, ap}
use Rattle.pz_eval_machine.specs.devices.Weights.{weight}
use Rattle.pz_eval_machine.proofs.Weighing.{tasks_pushed}
use Rattle.pz_eval_machine.proofs.continuing.descend.Goals as goal

pub returns-clause-goes : goal.returns-clause-goes
returns-clause-goes c model now p m r =
    then_pending model now p (evaluated model now c.args.depth p (view c.args.code.now) m r) c.args.task c.args.tasks.now.items c.add_task.new.tasks.items c.in_ok-add_task.ensures

pub returns-clause-weighs : goal.returns-clause-weighs
returns-clause-weighs c = ap (λ (n : ℕ). weight (view c.args.code.now) + n) (tasks_pushed c.args.tasks.now.items c.add_task.new.tasks.items c.args.task c.in_ok-add_task.ensures)
