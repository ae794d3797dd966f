use Rattle.std.proofs.Common.{◌≡◌, ◌∙◌, ap, sym, Ok, w64, FitsSigned, rules, arith}
use Rattle.std.specs.Prelude.{int_rem}
use Rattle.std.proofs.lemmas.Int.{to_z-of_z}
use Rattle.pz_state.specs.pz_value.declared.value.Value.TheVariants.{Int}
use Rattle.pz_prims.proofs.Numbers.{modulo_is, divided_by_other}
use Rattle.pz_prims.proofs.integers.modulo.Goals as goal

pub returns : goal.returns
returns c =
    let fits : FitsSigned w64 c.wrapping_rem.result = search rules in
    let left : c.wrapping_rem.result ≡ int_rem c.args.a c.args.b = grind (arith, to_z-of_z) in
    ap (λ z. Ok (Int z)) (to_z-of_z w64 c.wrapping_rem.result fits ∙ left ∙ modulo_is c.args.a c.args.b)
    ∙ sym (divided_by_other c.args.b _ c.if-b-eq0.false)
