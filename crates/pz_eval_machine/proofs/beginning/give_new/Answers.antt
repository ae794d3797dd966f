use Rattle.pz_eval_operations.specs.pz_eval_rules.Steps.{created}
use Rattle.pz_eval_machine.proofs.Going.{given_goes}
use Rattle.pz_eval_machine.proofs.beginning.give_new.Goals as goal

pub returns-clause-goes : goal.returns-clause-goes
returns-clause-goes c model now p ks locals known =
    given_goes model now p ks c.create.result c.give.result (created model c.args.class c.args.at) (record { state = c.args.state.now.held; locals = locals }) (record { state = c.create.new.state.held; locals = locals }) c.args.units.now c.tick.new.units
    c.in_ok-tick.ensures c.give.ensures (c.create.ensures.tells model locals known)
