use Rattle.std.proofs.Common.{w64}
use Rattle.std.specs.Prelude.{FitsSigned}
use Rattle.std.specs.Int.{cast_unsigned, cast_signed}
use Rattle.std.proofs.Common.{rules}
use Rattle.std.proofs.lemmas.Int.{to_z-of_z}
use Rattle.pz_classes_code.specs.pz_value.declared.value.Value.TheVariants.{Int}
use Rattle.pz_eval_operations.proofs.Applied.{gives_back}
use Rattle.pz_eval_operations.proofs.Worth.{some_weaker}
use Rattle.pz_eval_operations.proofs.attempts.number_of_two.Goals as goal

pub returns : goal.returns
returns c =
    let left_fits : FitsSigned w64 c.in_ok-op.left = search rules in
    let right_fits : FitsSigned w64 c.in_ok-op.right = search rules in
    some_weaker c.number_between.result _ _
    (λ y gives_is. c.in_ok-op.ensures (Int y) (gives_back c.in_ok-op.op c.in_ok-op.left c.in_ok-op.right (cast_signed w64 (cast_unsigned w64 c.in_ok-op.left)) (cast_signed w64 (cast_unsigned w64 c.in_ok-op.right)) (Int y)
    (to_z-of_z w64 c.in_ok-op.left left_fits) (to_z-of_z w64 c.in_ok-op.right right_fits) gives_is)) c.number_between.ensures
