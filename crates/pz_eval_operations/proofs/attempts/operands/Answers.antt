use Rattle.std.proofs.Common.{ℤ, length, eqb-true, sym, ◌∙◌, subst, w64}
use Rattle.std.specs.Prelude.{FitsSigned}
use Rattle.std.specs.Int.{cast_unsigned, cast_signed}
use Rattle.std.proofs.Common.{rules}
use Rattle.std.proofs.lemmas.Int.{to_z-of_z}
use Rattle.pz_classes_code.specs.pz_value.declared.value.Value.TheVariants.{Int}
use Rattle.pz_classes_code.specs.CodeView.{view}
use Rattle.pz_eval_operations.specs.devices.Sites.{place_of, memory_of}
use Rattle.pz_eval_operations.specs.devices.AtOnce.{IsWorth}
use Rattle.pz_eval_operations.proofs.Worth.{numbers_worth, nothing_left}
use Rattle.pz_eval_operations.proofs.attempts.operands.Goals as goal

pub returns : goal.returns
returns c y gives_is =
    let left_fits : FitsSigned w64 c.in_ok-left.left = search rules in
    let right_fits : FitsSigned w64 c.in_ok-right.right = search rules in
    numbers_worth (place_of c.args.activation.now.site) (memory_of c.args.activation.now c.args.state.now.held) (view c.args.first.now) c.in_ok-link.link.now c.in_ok-link.rest.now c.args.links.now (cast_signed w64 (cast_unsigned w64 c.in_ok-left.left)) (cast_signed w64 (cast_unsigned w64 c.in_ok-right.right)) y c.in_ok-link.ensures.cases.0
    (nothing_left c.in_ok-link.rest.now (eqb-true (length c.in_ok-link.rest.now) 0 (sym c.is_empty.ensures ∙ c.if-not-is_empty.false)))
    (subst (λ (z : ℤ). IsWorth (place_of c.args.activation.now.site) (memory_of c.args.activation.now c.args.state.now.held) (view c.args.first.now) (Int z)) (sym (to_z-of_z w64 c.in_ok-left.left left_fits)) c.in_ok-left.ensures)
    (subst (λ (z : ℤ). IsWorth (place_of c.args.activation.now.site) (memory_of c.args.activation.now c.args.state.now.held) (view c.in_ok-link.link.now.operand) (Int z)) (sym (to_z-of_z w64 c.in_ok-right.right right_fits)) c.in_ok-right.ensures)
    gives_is
