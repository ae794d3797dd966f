use Rattle.pz_eval_operations.specs.pz_eval_rules.Steps.{applied_alone}
use Rattle.pz_eval_machine.proofs.Going.{told_goes}
use Rattle.pz_eval_machine.proofs.Within.{given_within}
use Rattle.pz_eval_machine.proofs.Weighing.{given_weighs}
use Rattle.pz_eval_machine.proofs.resuming.operate_alone.Goals as goal

pub returns-clause-goes : goal.returns-clause-goes
returns-clause-goes c model now p ks locals r =
    told_goes model now p ks c.apply.result c.give.result (applied_alone c.args.op c.args.at c.args.operand (record { state = c.args.state.now.held; locals = locals })) (record { state = c.apply.new.state.held; locals = locals }) r c.give.ensures (c.apply.ensures.tells locals)

pub returns-clause-within : goal.returns-clause-within
returns-clause-within c = given_within c.apply.result c.give.result _ c.give.ensures c.apply.ensures.within

pub returns-clause-weighs : goal.returns-clause-weighs
returns-clause-weighs c = given_weighs c.apply.result c.give.result c.give.ensures
