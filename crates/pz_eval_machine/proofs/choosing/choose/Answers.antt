use Rattle.std.proofs.lemmas.Result.{IfOk-weaker}
use Rattle.pz_classes_code.specs.CodeView.{list_view, part_view}
use Rattle.pz_classes_code.specs.pz_value.declared.value.Value.TheVariants.{Nil}
use Rattle.pz_eval_operations.specs.pz_eval_rules.Steps.{chosen}
use Rattle.pz_eval_operations.specs.pz_eval_rules.devices.Computed.{sequence, evaluated}
use Rattle.pz_eval_machine.specs.devices.Tasks.{pending, meant}
use Rattle.pz_eval_machine.proofs.Going.{goes_same}
use Rattle.pz_eval_machine.proofs.Onward.{not_tested, part_chosen}
use Rattle.std.proofs.Common.{arith}
use Rattle.pz_eval_machine.proofs.Weighing.{chosen_weighs}
use Rattle.pz_eval_machine.proofs.choosing.choose.Goals as goal

pub returns-in_default : goal.returns-in_default
returns-in_default c = record {
  goes = λ model now p m r. not_tested c.args.value c.in_default.not-Bool c.args.at (λ b. sequence model now (evaluated model now c.args.depth) p Nil (chosen b (list_view c.args.part.now) (part_view c.args.other.now))) m r (pending model now p c.args.tasks.now.items);
  within = tt;
  weighs = tt;
}

pub returns-clause-goes : goal.returns-clause-goes
returns-clause-goes c model now p m r =
    goes_same (λ k. meant model now p c.go_on_list.new.tasks.items k m r) c.go_on_list.result r
    (part_chosen model now c.args.depth p c.args.at m r (pending model now p c.args.tasks.now.items) c.args.value c.in-Bool.test (list_view c.chosen_part-codes.result.now) (list_view c.args.part.now) (part_view c.args.other.now) c.in-Bool.is c.chosen_part-codes.ensures)
    (c.go_on_list.ensures.goes model now p m r)

pub returns-clause-within : goal.returns-clause-within
returns-clause-within c = IfOk-weaker c.go_on_list.result _ _ (λ k kept count all. kept count tt all) c.go_on_list.ensures.within

pub returns-clause-weighs : goal.returns-clause-weighs
returns-clause-weighs c =
    IfOk-weaker c.go_on_list.result _ _
    (λ k e. omega (arith, e, chosen_weighs c.in-Bool.test (list_view c.args.part.now) (list_view c.chosen_part-codes.result.now) (part_view c.args.other.now) c.chosen_part-codes.ensures)) c.go_on_list.ensures.weighs
