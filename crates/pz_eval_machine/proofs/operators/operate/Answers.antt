use Rattle.std.proofs.Common.{sym, subst, ℕ, length}
use Rattle.std.specs.Prelude.{All}
use Rattle.std.proofs.lemmas.Result.{IfOk-weaker}
use Rattle.pz_eval_operations.specs.pz_eval_rules.Steps.{applied}
use Rattle.pz_eval_operations.specs.pz_eval_rules.devices.Computed.{operators, evaluated}
use Rattle.pz_eval_operations.specs.devices.Views.{links_view}
use Rattle.pz_eval_machine.specs.devices.Tasks.{pending, meant}
use Rattle.pz_eval_operations.specs.devices.Within.{TaskWithin}
use Rattle.pz_eval_machine.proofs.Going.{goes_same, counted_on, counted_stops}
use Rattle.pz_eval_machine.proofs.Unwinding.{on_ok}
use Rattle.pz_eval_machine.proofs.operators.operate.Goals as goal

pub returns-in-Ok-clause-goes : goal.returns-in-Ok-clause-goes
returns-in-Ok-clause-goes c model now p locals =
    goes_same (λ k. meant model now p c.more_operators.new.tasks.items k (record { state = c.apply_counted.new.state.held; locals = locals }) c.apply_counted.new.units) c.more_operators.result c.apply_counted.new.units
    (counted_on c.in-Ok.value (applied c.args.link.now.op c.args.link.now.pos c.args.left c.args.right) (λ z. operators model now (evaluated model now c.args.depth) p z (links_view c.args.rest.now)) (record { state = c.args.state.now.held; locals = locals }) (record { state = c.apply_counted.new.state.held; locals = locals }) c.args.units.now c.apply_counted.new.units (pending model now p c.args.tasks.now.items) (c.in-Ok.ensures.counts locals))
    (c.more_operators.ensures.goes model now p (record { state = c.apply_counted.new.state.held; locals = locals }) c.apply_counted.new.units)

pub returns-clause-goes : goal.returns-clause-goes
returns-clause-goes c model now p locals =
    counted_stops c.in-Err.stop (applied c.args.link.now.op c.args.link.now.pos c.args.left c.args.right) (λ z. operators model now (evaluated model now c.args.depth) p z (links_view c.args.rest.now)) (record { state = c.args.state.now.held; locals = locals }) (record { state = c.apply_counted.new.state.held; locals = locals }) c.args.units.now c.apply_counted.new.units (pending model now p c.args.tasks.now.items) (c.in-Err.ensures.counts locals)

pub returns-in-Ok-clause-within : goal.returns-in-Ok-clause-within
returns-in-Ok-clause-within c =
    IfOk-weaker c.more_operators.result _ _
    (λ k kept all. kept (length c.apply_counted.new.state.held.objects) c.in-Ok.ensures.within (subst (λ (n : ℕ). All (TaskWithin n) c.args.tasks.now.items) (sym c.apply_counted.ensures.count) all)) c.more_operators.ensures.within

pub returns-in-Ok-clause-counted : goal.returns-in-Ok-clause-counted
returns-in-Ok-clause-counted c = on_ok c.more_operators.result c.in-Ok.ensures.counted
