use Rattle.std.proofs.Common.{ap, subst, ◌∙◌, List, length, Option}
use Rattle.pz_classes_code.specs.pz_value.declared.value.Value.{Value}
use Rattle.pz_eval_operations.specs.pz_eval_rules.Memories.{read}
use Rattle.pz_eval_operations.specs.pz_eval_rules.Answers.{gives}
use Rattle.pz_eval_machine.specs.devices.Steps.{Goes}
use Rattle.std.proofs.lemmas.Result.{IfOk-weaker}
use Rattle.pz_eval_operations.specs.pz_eval_rules.devices.Computed.{done, and_then, tick}
use Rattle.pz_eval_operations.specs.devices.Sites.{place_of, locals_at, memory_at}
use Rattle.pz_eval_machine.specs.devices.Tasks.{pending, meant, coming}
use Rattle.pz_eval_machine.proofs.Going.{goes_same}
use Rattle.pz_eval_machine.proofs.Forms.{at_literal, at_variable, at_me, at_clock, at_creation, at_group, at_chain, at_sends, at_unary, at_assign, at_return, at_choice, at_loop}
use Rattle.std.proofs.Common.{ℕ, ◌+◌, sym}
use Rattle.pz_classes_code.specs.declared.code.Code.{Code}
use Rattle.pz_classes_code.specs.declared.code.CodeForm.TheVariants.{If}
use Rattle.pz_classes_code.specs.CodeView.{form_view}
use Rattle.pz_eval_machine.specs.devices.Weights.{weight, tasks_weight, load, Falls}
use Rattle.pz_eval_machine.proofs.Within.{activation_wider}
use Rattle.pz_eval_machine.proofs.Weighing.{counted_falls, chain_weighs, sends_weighs}
use Rattle.pz_eval_machine.proofs.beginning.begin_form.Goals as goal

pub returns-in-Lit-clause-goes : goal.returns-in-Lit-clause-goes
returns-in-Lit-clause-goes c model known =
    goes_same (λ k. meant model c.args.basis.clock (place_of c.args.activation.now.site) c.args.activation.now.tasks.items k (memory_at c.args.activation.now.site c.args.state.now.held c.args.activation.now.locals.items) c.give_constant.new.units) c.give_constant.result c.give_constant.new.units
    (ap (λ x. and_then x (pending model c.args.basis.clock (place_of c.args.activation.now.site) c.args.activation.now.tasks.items)) (at_literal model c.args.basis.clock c.args.depth (place_of c.args.activation.now.site) c.args.at c.args.form.now (memory_at c.args.activation.now.site c.args.state.now.held c.args.activation.now.locals.items) c.args.units.now c.in-Lit.literal c.in-Lit.is))
    (c.give_constant.ensures.goes model c.args.basis.clock (place_of c.args.activation.now.site) c.args.activation.now.tasks.items (memory_at c.args.activation.now.site c.args.state.now.held c.args.activation.now.locals.items))

pub returns-in-Lit-clause-within : goal.returns-in-Lit-clause-within
returns-in-Lit-clause-within c = IfOk-weaker c.give_constant.result _ _ (λ k h. (c.requires, h)) (c.give_constant.ensures.within (length c.args.state.now.held.objects))

pub returns-in-Lit-clause-falls : goal.returns-in-Lit-clause-falls
returns-in-Lit-clause-falls c =
    counted_falls c.give_constant.result c.args.units.now (weight (form_view c.args.form.now c.args.at) + tasks_weight c.args.activation.now.tasks.items) c.give_constant.new.units (λ k. load k c.args.activation.now.tasks.items) c.give_constant.ensures.counted

pub returns-in-Var-clause-goes : goal.returns-in-Var-clause-goes
returns-in-Var-clause-goes c model known =
    goes_same (λ k. meant model c.args.basis.clock (place_of c.args.activation.now.site) c.args.activation.now.tasks.items k (memory_at c.args.activation.now.site c.args.state.now.held c.args.activation.now.locals.items) c.give_variable.new.units) c.give_variable.result c.give_variable.new.units
    (ap (λ x. and_then x (pending model c.args.basis.clock (place_of c.args.activation.now.site) c.args.activation.now.tasks.items)) (at_variable model c.args.basis.clock c.args.depth (place_of c.args.activation.now.site) c.args.at c.args.form.now (memory_at c.args.activation.now.site c.args.state.now.held c.args.activation.now.locals.items) c.args.units.now c.in-Var.slot c.in-Var.is))
    (subst (λ (ys : List Value). Goes (λ k. meant model c.args.basis.clock (place_of c.args.activation.now.site) c.args.activation.now.tasks.items k (memory_at c.args.activation.now.site c.args.state.now.held ys) c.give_variable.new.units) c.give_variable.result c.give_variable.new.units
    (and_then (tick (λ m1 r1. done (gives (read (place_of c.args.activation.now.site) c.in-Var.slot m1) m1) r1) (memory_at c.args.activation.now.site c.args.state.now.held ys) c.args.units.now) (pending model c.args.basis.clock (place_of c.args.activation.now.site) c.args.activation.now.tasks.items))) c.as_slice.ensures.value (c.give_variable.ensures.goes model c.args.basis.clock c.args.activation.now.tasks.items))

pub returns-in-Var-clause-within : goal.returns-in-Var-clause-within
returns-in-Var-clause-within c = IfOk-weaker c.give_variable.result _ _ (λ k h. (c.requires, h)) c.give_variable.ensures.within

pub returns-in-Var-clause-falls : goal.returns-in-Var-clause-falls
returns-in-Var-clause-falls c =
    counted_falls c.give_variable.result c.args.units.now (weight (form_view c.args.form.now c.args.at) + tasks_weight c.args.activation.now.tasks.items) c.give_variable.new.units (λ k. load k c.args.activation.now.tasks.items) c.give_variable.ensures.counted

pub returns-in-Me-clause-goes : goal.returns-in-Me-clause-goes
returns-in-Me-clause-goes c model known =
    goes_same (λ k. meant model c.args.basis.clock (place_of c.args.activation.now.site) c.args.activation.now.tasks.items k (memory_at c.args.activation.now.site c.args.state.now.held c.args.activation.now.locals.items) c.give_self.new.units) c.give_self.result c.give_self.new.units
    (ap (λ x. and_then x (pending model c.args.basis.clock (place_of c.args.activation.now.site) c.args.activation.now.tasks.items)) (at_me model c.args.basis.clock c.args.depth (place_of c.args.activation.now.site) c.args.at c.args.form.now (memory_at c.args.activation.now.site c.args.state.now.held c.args.activation.now.locals.items) c.args.units.now c.in-Me.is))
    (c.give_self.ensures.goes model c.args.basis.clock c.args.activation.now.tasks.items (memory_at c.args.activation.now.site c.args.state.now.held c.args.activation.now.locals.items))

pub returns-in-Me-clause-within : goal.returns-in-Me-clause-within
returns-in-Me-clause-within c = IfOk-weaker c.give_self.result _ _ (λ k h. (c.requires, h)) (c.give_self.ensures.within (length c.args.state.now.held.objects) c.requires.site)

pub returns-in-Me-clause-falls : goal.returns-in-Me-clause-falls
returns-in-Me-clause-falls c =
    counted_falls c.give_self.result c.args.units.now (weight (form_view c.args.form.now c.args.at) + tasks_weight c.args.activation.now.tasks.items) c.give_self.new.units (λ k. load k c.args.activation.now.tasks.items) c.give_self.ensures.counted

pub returns-in-Clock-clause-goes : goal.returns-in-Clock-clause-goes
returns-in-Clock-clause-goes c model known =
    goes_same (λ k. meant model c.args.basis.clock (place_of c.args.activation.now.site) c.args.activation.now.tasks.items k (memory_at c.args.activation.now.site c.args.state.now.held c.args.activation.now.locals.items) c.give_time.new.units) c.give_time.result c.give_time.new.units
    (ap (λ x. and_then x (pending model c.args.basis.clock (place_of c.args.activation.now.site) c.args.activation.now.tasks.items)) (at_clock model c.args.basis.clock c.args.depth (place_of c.args.activation.now.site) c.args.at c.args.form.now (memory_at c.args.activation.now.site c.args.state.now.held c.args.activation.now.locals.items) c.args.units.now c.in-Clock.is))
    (c.give_time.ensures.goes model c.args.basis.clock (place_of c.args.activation.now.site) c.args.activation.now.tasks.items (memory_at c.args.activation.now.site c.args.state.now.held c.args.activation.now.locals.items))

pub returns-in-Clock-clause-within : goal.returns-in-Clock-clause-within
returns-in-Clock-clause-within c = IfOk-weaker c.give_time.result _ _ (λ k h. (c.requires, h)) (c.give_time.ensures.within (length c.args.state.now.held.objects))

pub returns-in-Clock-clause-falls : goal.returns-in-Clock-clause-falls
returns-in-Clock-clause-falls c =
    counted_falls c.give_time.result c.args.units.now (weight (form_view c.args.form.now c.args.at) + tasks_weight c.args.activation.now.tasks.items) c.give_time.new.units (λ k. load k c.args.activation.now.tasks.items) c.give_time.ensures.counted

pub returns-in-New-clause-goes : goal.returns-in-New-clause-goes
returns-in-New-clause-goes c model known =
    goes_same (λ k. meant model c.args.basis.clock (place_of c.args.activation.now.site) c.args.activation.now.tasks.items k (memory_at c.args.activation.now.site c.give_new.new.state.held c.args.activation.now.locals.items) c.give_new.new.units) c.give_new.result c.give_new.new.units
    (ap (λ x. and_then x (pending model c.args.basis.clock (place_of c.args.activation.now.site) c.args.activation.now.tasks.items)) (at_creation model c.args.basis.clock c.args.depth (place_of c.args.activation.now.site) c.args.at c.args.form.now (memory_at c.args.activation.now.site c.args.state.now.held c.args.activation.now.locals.items) c.args.units.now c.in-New.class c.in-New.is))
    (c.give_new.ensures.goes model c.args.basis.clock (place_of c.args.activation.now.site) c.args.activation.now.tasks.items (locals_at c.args.activation.now.site c.args.activation.now.locals.items) known)

pub returns-in-New-clause-within : goal.returns-in-New-clause-within
returns-in-New-clause-within c =
    IfOk-weaker c.give_new.result _ _ (λ k h. (activation_wider (length c.args.state.now.held.objects) (length c.give_new.new.state.held.objects) c.give_new.ensures.count c.args.activation.now c.requires, h)) c.give_new.ensures.within

pub returns-in-New-clause-falls : goal.returns-in-New-clause-falls
returns-in-New-clause-falls c =
    counted_falls c.give_new.result c.args.units.now (weight (form_view c.args.form.now c.args.at) + tasks_weight c.args.activation.now.tasks.items) c.give_new.new.units (λ k. load k c.args.activation.now.tasks.items) c.give_new.ensures.counted

pub returns-in-Group-clause-goes : goal.returns-in-Group-clause-goes
returns-in-Group-clause-goes c model known =
    goes_same (λ k. meant model c.args.basis.clock (place_of c.args.activation.now.site) c.begin_group.new.tasks.items k (memory_at c.args.activation.now.site c.args.state.now.held c.args.activation.now.locals.items) c.begin_group.new.units) c.begin_group.result c.begin_group.new.units
    (ap (λ x. and_then x (pending model c.args.basis.clock (place_of c.args.activation.now.site) c.args.activation.now.tasks.items)) (at_group model c.args.basis.clock c.args.depth (place_of c.args.activation.now.site) c.args.at c.args.form.now (memory_at c.args.activation.now.site c.args.state.now.held c.args.activation.now.locals.items) c.args.units.now c.in-Group.codes c.as_slice-in-Group.result.now c.as_slice-in-Group.ensures c.in-Group.is))
    (c.begin_group.ensures.goes model c.args.basis.clock (place_of c.args.activation.now.site) (memory_at c.args.activation.now.site c.args.state.now.held c.args.activation.now.locals.items))

pub returns-in-Group-clause-within : goal.returns-in-Group-clause-within
returns-in-Group-clause-within c =
    IfOk-weaker c.begin_group.result _ _
    (λ k kept. let tasks = kept (length c.args.state.now.held.objects) c.requires.tasks in (record { site = c.requires.site; locals = c.requires.locals; tasks = tasks.0 }, tasks.1)) c.begin_group.ensures.within

pub returns-in-Group-clause-falls : goal.returns-in-Group-clause-falls
returns-in-Group-clause-falls c =
    counted_falls c.begin_group.result c.args.units.now (weight (form_view c.args.form.now c.args.at) + tasks_weight c.args.activation.now.tasks.items) c.begin_group.new.units (λ k. load k c.begin_group.new.tasks.items) c.begin_group.ensures.counted

pub returns-in-Unary-clause-goes : goal.returns-in-Unary-clause-goes
returns-in-Unary-clause-goes c model known =
    goes_same (λ k. meant model c.args.basis.clock (place_of c.args.activation.now.site) c.descend_counted.new.tasks.items k (memory_at c.args.activation.now.site c.args.state.now.held c.args.activation.now.locals.items) c.descend_counted.new.units) c.descend_counted.result c.descend_counted.new.units
    (ap (λ x. and_then x (pending model c.args.basis.clock (place_of c.args.activation.now.site) c.args.activation.now.tasks.items)) (at_unary model c.args.basis.clock c.args.depth (place_of c.args.activation.now.site) c.args.at c.args.form.now (memory_at c.args.activation.now.site c.args.state.now.held c.args.activation.now.locals.items) c.args.units.now c.in-Unary.op c.in-Unary.operand c.get-in-Unary.result.now c.get-in-Unary.ensures c.in-Unary.is))
    (c.descend_counted.ensures.goes model c.args.basis.clock (place_of c.args.activation.now.site) (memory_at c.args.activation.now.site c.args.state.now.held c.args.activation.now.locals.items))

pub returns-in-Unary-clause-within : goal.returns-in-Unary-clause-within
returns-in-Unary-clause-within c =
    IfOk-weaker c.descend_counted.result _ _
    (λ k kept. let tasks = kept (length c.args.state.now.held.objects) tt c.requires.tasks in (record { site = c.requires.site; locals = c.requires.locals; tasks = tasks.0 }, tasks.1)) c.descend_counted.ensures.within

pub returns-in-Unary-clause-falls : goal.returns-in-Unary-clause-falls
returns-in-Unary-clause-falls c =
    counted_falls c.descend_counted.result c.args.units.now (weight (form_view c.args.form.now c.args.at) + tasks_weight c.args.activation.now.tasks.items) c.descend_counted.new.units (λ k. load k c.descend_counted.new.tasks.items) c.descend_counted.ensures.counted

pub returns-in-Chain-clause-goes : goal.returns-in-Chain-clause-goes
returns-in-Chain-clause-goes c model known =
    goes_same (coming model c.args.basis.clock c.begin_chain.new.activation c.begin_chain.new.state.held c.begin_chain.new.units) c.begin_chain.result c.begin_chain.new.units
    (ap (λ x. and_then x (pending model c.args.basis.clock (place_of c.args.activation.now.site) c.args.activation.now.tasks.items)) (at_chain model c.args.basis.clock c.args.depth (place_of c.args.activation.now.site) c.args.at c.args.form.now (memory_at c.args.activation.now.site c.args.state.now.held c.args.activation.now.locals.items) c.args.units.now c.in-Chain.first c.get.result.now c.in-Chain.links c.as_slice-in-Chain.result c.get.ensures c.as_slice-in-Chain.ensures c.in-Chain.is))
    (c.begin_chain.ensures.goes model c.args.basis.clock)

pub returns-in-Chain-clause-falls : goal.returns-in-Chain-clause-falls
returns-in-Chain-clause-falls c =
    IfOk-weaker c.begin_chain.result _ _
    (λ k h. subst (λ (n : ℕ). Falls c.args.units.now (n + tasks_weight c.args.activation.now.tasks.items) c.begin_chain.new.units (load k c.begin_chain.new.activation.tasks.items))
    (sym (chain_weighs c.args.form.now c.args.at c.in-Chain.first c.get.result.now c.in-Chain.links c.as_slice-in-Chain.result.now c.in-Chain.is c.get.ensures c.as_slice-in-Chain.ensures)) h) c.begin_chain.ensures.falls

pub returns-in-Sends-clause-goes : goal.returns-in-Sends-clause-goes
returns-in-Sends-clause-goes c model known =
    goes_same (coming model c.args.basis.clock c.begin_sends.new.activation c.args.state.now.held c.begin_sends.new.units) c.begin_sends.result c.begin_sends.new.units
    (ap (λ x. and_then x (pending model c.args.basis.clock (place_of c.args.activation.now.site) c.args.activation.now.tasks.items)) (at_sends model c.args.basis.clock c.args.depth (place_of c.args.activation.now.site) c.args.at c.args.form.now (memory_at c.args.activation.now.site c.args.state.now.held c.args.activation.now.locals.items) c.args.units.now c.in-Sends.first c.get-in-Sends.result.now c.in-Sends.sendings c.as_slice-in-Sends.result c.get-in-Sends.ensures c.as_slice-in-Sends.ensures c.in-Sends.is))
    (c.begin_sends.ensures.goes model c.args.basis.clock)

pub returns-in-Sends-clause-falls : goal.returns-in-Sends-clause-falls
returns-in-Sends-clause-falls c =
    IfOk-weaker c.begin_sends.result _ _
    (λ k h. subst (λ (n : ℕ). Falls c.args.units.now (n + tasks_weight c.args.activation.now.tasks.items) c.begin_sends.new.units (load k c.begin_sends.new.activation.tasks.items))
    (sym (sends_weighs c.args.form.now c.args.at c.in-Sends.first c.get-in-Sends.result.now c.in-Sends.sendings c.as_slice-in-Sends.result.now c.in-Sends.is c.get-in-Sends.ensures c.as_slice-in-Sends.ensures)) h) c.begin_sends.ensures.falls

pub returns-in-Assign-clause-goes : goal.returns-in-Assign-clause-goes
returns-in-Assign-clause-goes c model known =
    goes_same (coming model c.args.basis.clock c.begin_assign.new.activation c.begin_assign.new.state.held c.begin_assign.new.units) c.begin_assign.result c.begin_assign.new.units
    (ap (λ x. and_then x (pending model c.args.basis.clock (place_of c.args.activation.now.site) c.args.activation.now.tasks.items)) (at_assign model c.args.basis.clock c.args.depth (place_of c.args.activation.now.site) c.args.at c.args.form.now (memory_at c.args.activation.now.site c.args.state.now.held c.args.activation.now.locals.items) c.args.units.now c.in-Assign.slot c.in-Assign.value c.get-in-Assign.result.now c.get-in-Assign.ensures c.in-Assign.is))
    (c.begin_assign.ensures.goes model c.args.basis.clock)

pub returns-in-Assign-clause-falls : goal.returns-in-Assign-clause-falls
returns-in-Assign-clause-falls c =
    counted_falls c.begin_assign.result c.args.units.now (weight (form_view c.args.form.now c.args.at) + tasks_weight c.args.activation.now.tasks.items) c.begin_assign.new.units (λ k. load k c.begin_assign.new.activation.tasks.items) c.begin_assign.ensures.counted

pub returns-in-Return-clause-goes : goal.returns-in-Return-clause-goes
returns-in-Return-clause-goes c model known =
    goes_same (coming model c.args.basis.clock c.begin_return.new.activation c.args.state.now.held c.begin_return.new.units) c.begin_return.result c.begin_return.new.units
    (ap (λ x. and_then x (pending model c.args.basis.clock (place_of c.args.activation.now.site) c.args.activation.now.tasks.items)) (at_return model c.args.basis.clock c.args.depth (place_of c.args.activation.now.site) c.args.at c.args.form.now (memory_at c.args.activation.now.site c.args.state.now.held c.args.activation.now.locals.items) c.args.units.now c.in-Return.value c.get-in-Return.result.now c.get-in-Return.ensures c.in-Return.is))
    (c.begin_return.ensures.goes model c.args.basis.clock)

pub returns-in-Return-clause-falls : goal.returns-in-Return-clause-falls
returns-in-Return-clause-falls c =
    counted_falls c.begin_return.result c.args.units.now (weight (form_view c.args.form.now c.args.at) + tasks_weight c.args.activation.now.tasks.items) c.begin_return.new.units (λ k. load k c.begin_return.new.activation.tasks.items) c.begin_return.ensures.counted

pub returns-in-If-clause-goes : goal.returns-in-If-clause-goes
returns-in-If-clause-goes c model known =
    goes_same (coming model c.args.basis.clock c.begin_if.new.activation c.args.state.now.held c.begin_if.new.units) c.begin_if.result c.begin_if.new.units
    (ap (λ x. and_then x (pending model c.args.basis.clock (place_of c.args.activation.now.site) c.args.activation.now.tasks.items)) (at_choice model c.args.basis.clock c.args.depth (place_of c.args.activation.now.site) c.args.at c.args.form.now (memory_at c.args.activation.now.site c.args.state.now.held c.args.activation.now.locals.items) c.args.units.now c.in-If.test c.get-in-If.result.now c.in-If.part c.as_slice-in-If.result.now c.get-in-If-3.result.now c.get-in-If.ensures (c.as_slice-in-If.ensures ∙ c.get-in-If-2.ensures) (c.in-If.is ∙ ap (λ (o : Option (List Code)). If c.in-If.test c.in-If.part o) (sym c.get-in-If-3.ensures))))
    (c.begin_if.ensures.goes model c.args.basis.clock)

pub returns-in-If-clause-falls : goal.returns-in-If-clause-falls
returns-in-If-clause-falls c =
    counted_falls c.begin_if.result c.args.units.now (weight (form_view c.args.form.now c.args.at) + tasks_weight c.args.activation.now.tasks.items) c.begin_if.new.units (λ k. load k c.begin_if.new.activation.tasks.items) c.begin_if.ensures.counted

pub returns-in-While-clause-goes : goal.returns-in-While-clause-goes
returns-in-While-clause-goes c model known =
    goes_same (coming model c.args.basis.clock c.go_on_turns.new.activation c.go_on_turns.new.state.held c.go_on_turns.new.units) c.go_on_turns.result c.go_on_turns.new.units
    (ap (λ x. and_then x (pending model c.args.basis.clock (place_of c.args.activation.now.site) c.args.activation.now.tasks.items)) (at_loop model c.args.basis.clock c.args.depth (place_of c.args.activation.now.site) c.args.at c.args.form.now (memory_at c.args.activation.now.site c.args.state.now.held c.args.activation.now.locals.items) c.args.units.now c.in-While.test c.get-in-While.result.now c.in-While.body c.as_slice-in-While.result.now c.get-in-While.ensures c.as_slice-in-While.ensures c.in-While.is))
    (c.go_on_turns.ensures.goes model c.args.basis.clock)

pub returns-in-While-clause-falls : goal.returns-in-While-clause-falls
returns-in-While-clause-falls c =
    counted_falls c.go_on_turns.result c.args.units.now (weight (form_view c.args.form.now c.args.at) + tasks_weight c.args.activation.now.tasks.items) c.go_on_turns.new.units (λ k. load k c.go_on_turns.new.activation.tasks.items) c.go_on_turns.ensures.counted
