use Rattle.std.proofs.Common.{sym}
use Rattle.pz_classes_code.specs.pz_value.declared.value.Value.TheVariants.{Int}
use Rattle.pz_eval_operations.specs.devices.Sites.{place_of, memory_of}
use Rattle.pz_eval_operations.proofs.Worth.{some_weaker, literal_worth, variable_worth}
use Rattle.pz_eval_operations.proofs.attempts.number.Goals as goal

pub returns-in-Lit : goal.returns-in-Lit
returns-in-Lit c =
    some_weaker c.number_of.result _ _ (λ n e. literal_worth (place_of c.args.activation.now.site) (memory_of c.args.activation.now c.args.state.now.held) c.args.code.now (Int n) c.in-Lit.literal c.in-Lit.is (sym e)) c.number_of.ensures

pub returns-in-Var : goal.returns-in-Var
returns-in-Var c =
    some_weaker c.number_in.result _ _ (λ n e. variable_worth (place_of c.args.activation.now.site) (memory_of c.args.activation.now c.args.state.now.held) c.args.code.now (Int n) c.in-Var.slot c.in-Var.is (sym e)) c.number_in.ensures
