use Rattle.pz_eval_operations.specs.devices.Sites.{place_of, memory_of}
use Rattle.pz_eval_operations.proofs.Worth.{some_weaker, literal_worth, variable_worth, me_worth}
use Rattle.pz_eval_operations.proofs.attempts.plain.Goals as goal

pub returns-in-Lit-clause-worth : goal.returns-in-Lit-clause-worth
returns-in-Lit-clause-worth c =
    some_weaker c.plain_constant.result _ _ (λ y e. literal_worth (place_of c.args.activation.now.site) (memory_of c.args.activation.now c.args.state.now.held) c.args.code.now y c.in-Lit.literal c.in-Lit.is e) c.plain_constant.ensures

pub returns-in-Var-clause-worth : goal.returns-in-Var-clause-worth
returns-in-Var-clause-worth c =
    some_weaker c.plain_variable.result _ _ (λ y e. variable_worth (place_of c.args.activation.now.site) (memory_of c.args.activation.now c.args.state.now.held) c.args.code.now y c.in-Var.slot c.in-Var.is e) c.plain_variable.ensures.value

pub returns-in-Me-clause-worth : goal.returns-in-Me-clause-worth
returns-in-Me-clause-worth c = me_worth (place_of c.args.activation.now.site) (memory_of c.args.activation.now c.args.state.now.held) c.args.code.now c.self_at.result c.in-Me.is c.self_at.ensures.value
