use Rattle.std.proofs.Common.{length, eqb-true, sym, ◌∙◌}
use Rattle.pz_eval_operations.specs.declared.task.Task.TheVariants as task
use Rattle.pz_eval_machine.specs.devices.Tasks.{pending}
use Rattle.pz_eval_machine.proofs.Going.{pending_pop}
use Rattle.pz_eval_machine.proofs.Onward.{operators_over}
use Rattle.pz_eval_machine.proofs.operators.more_operators.Goals as goal

pub returns-then-is_empty-clause-goes : goal.returns-then-is_empty-clause-goes
returns-then-is_empty-clause-goes c model now p m r =
    operators_over model now c.args.depth p m r (pending model now p c.args.tasks.now.items) c.args.value c.args.links.now (eqb-true (length c.args.links.now) 0 (sym c.is_empty.ensures ∙ c.if-is_empty.true))

pub returns-clause-goes : goal.returns-clause-goes
returns-clause-goes c model now p m r = pending_pop model now p c.args.value m r (task.Operators c.args.depth c.args.links) c.args.tasks.now.items c.add_task.new.tasks.items c.in_ok-add_task.ensures
