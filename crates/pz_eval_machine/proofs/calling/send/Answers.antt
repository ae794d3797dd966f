use Rattle.std.proofs.Common.{ap, sym}
use Rattle.pz_classes_code.specs.pz_value.declared.value.Value.{Value}
use Rattle.pz_eval_operations.specs.pz_eval_rules.Steps.{reply}
use Rattle.pz_eval_operations.specs.pz_eval_rules.devices.Computed.{Reached, and_then, replied, selectors, evaluated}
use Rattle.pz_eval_operations.specs.devices.Sites.{place_of, memory_at}
use Rattle.pz_eval_operations.specs.devices.Views.{sendings_view}
use Rattle.pz_eval_machine.specs.devices.Tasks.{pending, coming, unwound}
use Rattle.pz_eval_machine.proofs.Going.{goes_same, one_left}
use Rattle.pz_eval_machine.proofs.Unwinding.{tick_stops}
use Rattle.pz_eval_machine.proofs.Weighing.{counted_then}
use Rattle.pz_eval_machine.proofs.calling.send.Goals as goal

pub returns-in-Ok-clause-goes : goal.returns-in-Ok-clause-goes
returns-in-Ok-clause-goes c model known =
    goes_same (λ k. unwound model c.args.basis.clock c.deliver.new.callers.items (coming model c.args.basis.clock c.deliver.new.activation c.deliver.new.state.held c.deliver.new.units k)) c.deliver.result c.deliver.new.units
    (ap (λ (x : Reached Value). unwound model c.args.basis.clock c.args.callers.now.items (and_then x (pending model c.args.basis.clock (place_of c.args.activation.now.site) c.args.activation.now.tasks.items))) (sym (one_left (λ m r. and_then (replied model c.args.basis.clock (evaluated model c.args.basis.clock c.args.request.depth) (reply model c.args.request.receiver c.args.request.selector.now c.args.request.arguments.items m) c.args.request.arguments.items m r) (λ z. selectors model c.args.basis.clock (evaluated model c.args.basis.clock c.args.request.depth) (place_of c.args.activation.now.site) z (sendings_view c.args.request.more.now))) (memory_at c.args.activation.now.site c.args.state.now.held c.args.activation.now.locals.items) c.args.units.now c.tick.new.units c.in-Ok.ensures)))
    (c.deliver.ensures.goes model known)

pub returns-clause-goes : goal.returns-clause-goes
returns-clause-goes c model known =
    tick_stops model c.args.basis.clock c.in-Err.stop c.args.callers.now.items (λ m r. and_then (replied model c.args.basis.clock (evaluated model c.args.basis.clock c.args.request.depth) (reply model c.args.request.receiver c.args.request.selector.now c.args.request.arguments.items m) c.args.request.arguments.items m r) (λ z. selectors model c.args.basis.clock (evaluated model c.args.basis.clock c.args.request.depth) (place_of c.args.activation.now.site) z (sendings_view c.args.request.more.now))) (memory_at c.args.activation.now.site c.args.state.now.held c.args.activation.now.locals.items) c.args.units.now c.tick.new.units (pending model c.args.basis.clock (place_of c.args.activation.now.site) c.args.activation.now.tasks.items) c.in-Err.ensures

pub returns-in-Ok-clause-counted : goal.returns-in-Ok-clause-counted
returns-in-Ok-clause-counted c = counted_then c.deliver.result c.args.units.now c.tick.new.units c.deliver.new.units c.in-Ok.ensures c.deliver.ensures.units
