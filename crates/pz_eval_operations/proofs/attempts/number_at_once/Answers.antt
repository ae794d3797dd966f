use Rattle.std.proofs.Common.{ℤ, ◌-◌, Some, sym, subst, w64, arith}
use Rattle.std.specs.Prelude.{FitsSigned}
use Rattle.std.specs.Int.{cast_unsigned, cast_signed}
use Rattle.std.proofs.Common.{rules}
use Rattle.std.proofs.lemmas.Int.{to_z-of_z}
use Rattle.pz_classes_code.specs.pz_syntax.Expressions.{chain}
use Rattle.pz_classes_code.specs.pz_value.declared.value.Value.TheVariants.{Int}
use Rattle.pz_classes_code.specs.CodeView.{Tree, view}
use Rattle.pz_eval_operations.specs.devices.AtOnce.{IsWorthThree, Attempt}
use Rattle.pz_eval_operations.specs.devices.Sites.{place_of, memory_of}
use Rattle.pz_eval_operations.specs.devices.Views.{links_view}
use Rattle.pz_eval_operations.proofs.Worth.{chain_is, three_found}
use Rattle.pz_eval_operations.proofs.attempts.number_at_once.Goals as goal

pub returns : goal.returns
returns c =
    let fits : FitsSigned w64 c.in_ok-number.number = search rules in
    subst (λ (t : Tree). Attempt c.args.depth (place_of c.args.activation.now.site) (memory_of c.args.activation.now c.args.state.now.held) t c.args.units.now (c.args.units.now - 3) (Some (Int (cast_signed w64 (cast_unsigned w64 c.in_ok-number.number)))))
    (chain_is c.args.code.now c.in-Chain.first c.get.result.now c.in-Chain.links c.as_slice.result.now c.in-Chain.is c.get.ensures c.as_slice.ensures)
    (three_found (place_of c.args.activation.now.site) (memory_of c.args.activation.now c.args.state.now.held) (chain c.args.code.now.pos (view c.get.result.now) (links_view c.as_slice.result.now)) (Int (cast_signed w64 (cast_unsigned w64 c.in_ok-number.number))) c.args.depth c.args.units.now (c.args.units.now - 3)
    (omega (arith, c.if-depth-lt2.false)) (omega (arith, c.if-units-lt3.false))
    (subst (λ (z : ℤ). IsWorthThree (place_of c.args.activation.now.site) (memory_of c.args.activation.now c.args.state.now.held) (chain c.args.code.now.pos (view c.get.result.now) (links_view c.as_slice.result.now)) (Int z)) (sym (to_z-of_z w64 c.in_ok-number.number fits)) (c.in_ok-number.ensures c.args.code.now.pos)))
