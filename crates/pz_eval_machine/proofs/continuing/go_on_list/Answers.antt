use Rattle.std.proofs.lemmas.Result.{IfOk-weaker}
use Rattle.pz_eval_machine.specs.devices.Tasks.{pending, meant}
use Rattle.pz_eval_machine.proofs.Going.{goes_same}
use Rattle.pz_eval_operations.proofs.Worth.{nothing_left}
use Rattle.pz_eval_machine.proofs.Onward.{list_over, list_more, list_last}
use Rattle.std.proofs.Common.{length, eqb-true, sym, ◌∙◌, arith}
use Rattle.pz_eval_machine.proofs.Weighing.{no_list, some_list}
use Rattle.pz_eval_machine.proofs.continuing.go_on_list.Goals as goal

pub returns-in_default-clause-goes : goal.returns-in_default-clause-goes
returns-in_default-clause-goes c model now p m r = list_over model now c.args.depth p m r (pending model now p c.args.tasks.now.items) c.args.value c.args.codes.now c.in_default.ensures.cases

pub returns-clause-goes : goal.returns-clause-goes
returns-clause-goes c model now p m r =
    goes_same (λ k. meant model now p c.descend.new.tasks.items k m r) c.descend.result r
    (list_more model now c.args.depth p m r (pending model now p c.args.tasks.now.items) c.args.value c.in-Some.first.now c.in-Some.rest c.args.codes.now c.in-Some.ensures.cases.0)
    (c.descend.ensures.goes model now p m r)

pub returns-clause-within : goal.returns-clause-within
returns-clause-within c = IfOk-weaker c.descend.result _ _ (λ k kept count y all. kept count tt all) c.descend.ensures.within

pub returns-in_default-clause-weighs : goal.returns-in_default-clause-weighs
returns-in_default-clause-weighs c = omega (arith, no_list c.args.codes.now c.in_default.ensures.cases)

pub returns-clause-weighs : goal.returns-clause-weighs
returns-clause-weighs c = IfOk-weaker c.descend.result _ _ (λ k e. omega (arith, e, some_list c.in-Some.first.now c.in-Some.rest.now c.args.codes.now c.in-Some.ensures.cases.0)) c.descend.ensures.weighs

pub returns-then-is_empty-clause-goes : goal.returns-then-is_empty-clause-goes
returns-then-is_empty-clause-goes c model now p m r =
    list_last model now c.args.depth p m r (pending model now p c.args.tasks.now.items) c.args.value c.in-Some.first.now c.in-Some.rest.now c.args.codes.now c.in-Some.ensures.cases.0
    (nothing_left c.in-Some.rest.now (eqb-true (length c.in-Some.rest.now) 0 (sym c.is_empty.ensures ∙ c.if-is_empty.true)))

pub returns-then-is_empty-clause-weighs : goal.returns-then-is_empty-clause-weighs
returns-then-is_empty-clause-weighs c = omega (arith, some_list c.in-Some.first.now c.in-Some.rest.now c.args.codes.now c.in-Some.ensures.cases.0)
