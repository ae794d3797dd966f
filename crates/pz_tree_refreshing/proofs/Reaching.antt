-- The numbers of the first two children, and what a test means that is turned.
use Rattle.std.proofs.Common.{◌≡◌, ℕ, zero, suc, eqb, Bool, true, false, refl, arith}
use Rattle.std.specs.Prelude.{not}
use Rattle.pz_tree_nodes.specs.pz_tree_standing.Reached.{is_first, is_second}

unlike : (m n : ℕ) → (m ≡ n → ⊥) → eqb m n ≡ false
unlike m n d = elim (eqb m n) as (λ b. eqb m n ≡ b → eqb m n ≡ false) [ true ↦ λ e. absurd (d (grind arith)) | false ↦ λ e. e ] refl

pub first_is : (n : ℕ) → eqb n 0 ≡ is_first n
first_is zero = refl
first_is (suc n) = unlike (suc n) 0 (λ e. absurd (omega (arith, e)))

pub second_is : (n : ℕ) → eqb n 1 ≡ is_second n
second_is zero = refl
second_is (suc zero) = refl
second_is (suc (suc n)) = unlike (suc (suc n)) 1 (λ e. absurd (omega (arith, e)))

pub is_not : (b : Bool) → not b ≡ true → b ≡ false
is_not true e = absurd cc
is_not false e = refl

pub is_so : (b : Bool) → not b ≡ false → b ≡ true
is_so true e = refl
is_so false e = absurd cc
