-- Quotients and remainders.
use Rattle.std.proofs.Common.{◌≡◌, ℤ, pos, negsuc, ◌-ℤ◌, ◌*ℤ◌, refl, arith, w64}
use Rattle.std.specs.Prelude.{int_rem, int_div}
use Rattle.std.specs.Int.{cast_unsigned}
use Rattle.std.proofs.lemmas.Int.{ints, quot-rem}
use Rattle.std.proofs.lemmas.Bool.Decides.{nat_tests}
use Rattle.pz_state.specs.pz_value.declared.value.Value.{Value}
use Rattle.pz_prims.specs.Rows.{Answer}
use Rattle.pz_prims.specs.Integers.{divided_by}

-- the remainder is what the quotient leaves
pub modulo_is : (a b : ℤ) → int_rem a b ≡ a -ℤ (int_div a b *ℤ b)
modulo_is a b = omega (arith, ints, quot-rem a b)

pub divided_by_other : (b : ℤ) (answer : Answer Value) → (cast_unsigned w64 b ≡ 0 → ⊥) → divided_by b answer ≡ answer
divided_by_other (pos n) answer other = grind (arith, nat_tests)
divided_by_other (negsuc n) answer other = refl
