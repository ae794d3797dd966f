use Rattle.std.proofs.Common.{ap, arith}
use Rattle.pz_classes_code.specs.CodeView.{view}
use Rattle.pz_eval_operations.specs.pz_eval_rules.devices.Computed.{and_then}
use Rattle.pz_eval_operations.specs.devices.Sites.{place_of, memory_at}
use Rattle.pz_eval_machine.specs.devices.Tasks.{pending, meant}
use Rattle.pz_eval_machine.proofs.Going.{goes_same}
use Rattle.pz_eval_machine.proofs.Forms.{nothing_deep, begun}
use Rattle.std.proofs.Common.{ℕ, ◌+◌, sym, subst}
use Rattle.std.proofs.lemmas.Result.{IfOk-weaker}
use Rattle.pz_eval_machine.specs.devices.Weights.{tasks_weight, load, Falls}
use Rattle.pz_eval_machine.proofs.Weighing.{code_weighs}
use Rattle.pz_eval_machine.proofs.beginning.begin.Goals as goal

pub returns-then-depth-eq0-clause-goes : goal.returns-then-depth-eq0-clause-goes
returns-then-depth-eq0-clause-goes c model known =
    nothing_deep model c.args.basis.clock c.args.depth (place_of c.args.activation.now.site) (view c.args.code.now) (memory_at c.args.activation.now.site c.args.state.now.held c.args.activation.now.locals.items) c.args.units.now
    (pending model c.args.basis.clock (place_of c.args.activation.now.site) c.args.activation.now.tasks.items) c.if-depth-eq0.true

pub returns-clause-goes : goal.returns-clause-goes
returns-clause-goes c model known =
    goes_same (λ k. meant model c.args.basis.clock (place_of c.begin_form.new.activation.site) c.begin_form.new.activation.tasks.items k (memory_at c.begin_form.new.activation.site c.begin_form.new.state.held c.begin_form.new.activation.locals.items) c.begin_form.new.units) c.begin_form.result c.begin_form.new.units
    (ap (λ x. and_then x (pending model c.args.basis.clock (place_of c.args.activation.now.site) c.args.activation.now.tasks.items))
    (begun model c.args.basis.clock c.args.depth (place_of c.args.activation.now.site) c.args.code.now (memory_at c.args.activation.now.site c.args.state.now.held c.args.activation.now.locals.items) c.args.units.now (omega (arith, c.if-depth-eq0.false))))
    (c.begin_form.ensures.goes model known)

pub returns-clause-falls : goal.returns-clause-falls
returns-clause-falls c =
    IfOk-weaker c.begin_form.result _ _
    (λ k h. subst (λ (n : ℕ). Falls c.args.units.now (n + tasks_weight c.args.activation.now.tasks.items) c.begin_form.new.units (load k c.begin_form.new.activation.tasks.items)) (sym (code_weighs c.args.code.now)) h) c.begin_form.ensures.falls
