-- Operators whose values need no table.
use Rattle.std.proofs.Common.{◌≡◌, ◌^◌, ◌<◌, ℤ, pos, negsuc, ◌+ℤ◌, ◌-ℤ◌, ◌*ℤ◌, Bool, true, Option, Some, None, eqb, eq-eqb, refl, sym, ap, ◌∙◌, subst, w64, lt-ltb, arith}
use Rattle.std.specs.Prelude.{IfSome, SomeIff, FitsSigned, option_map, not, ◌&&◌, ◌||◌, int_lt, int_le}
use Rattle.std.specs.Ordering.{int_eq}
use Rattle.std.specs.Int.{cast_unsigned, cast_signed}
use Rattle.std.proofs.lemmas.Int.{to_z-of_z}
use Rattle.std.proofs.lemmas.Bool.Decides.{same_from_decides, Decides-eqb, Decides-int_eq}
use Rattle.pz_classes_code.specs.pz_syntax.declared.tokens.Pos.{Pos}
use Rattle.pz_classes_code.specs.pz_syntax.declared.tokens.Symbol.{Symbol}
use Rattle.pz_classes_code.specs.pz_syntax.declared.tokens.Symbol.TheVariants as symbol
use Rattle.pz_classes_code.specs.pz_value.declared.value.Value.{Value}
use Rattle.pz_classes_code.specs.pz_value.declared.value.Value.TheVariants.{Bool as Boolean, Int}
use Rattle.pz_prims.specs.Rows.{answered}
use Rattle.pz_prims.specs.EveryValue.{every_value}
use Rattle.pz_prims.specs.Integers.{integers, fits}
use Rattle.pz_prims.specs.Booleans.{booleans}
use Rattle.pz_prims.specs.Table.{outcome}
use Rattle.pz_eval_rules.specs.Memories.{Memory}
use Rattle.pz_eval_rules.specs.Answers.{gives}
use Rattle.pz_eval_rules.specs.Steps.{applied}

-- an operator gives this value wherever it stands
abbrev pub Gives : Symbol → Value → Value → Value → Type 0
Gives op y w z = (at : Pos) (m : Memory) → applied op at y w m ≡ gives z m

-- numbers of 64 bits, written and read back
module _ (a b : ℤ) (a_fits : FitsSigned w64 a) (b_fits : FitsSigned w64 b) where
  pub read_back : (f : ℤ → ℤ → Bool) → f (cast_signed w64 (cast_unsigned w64 a)) (cast_signed w64 (cast_unsigned w64 b)) ≡ f a b
  read_back f = rw (to_z-of_z w64 a a_fits, to_z-of_z w64 b b_fits) refl

  pub same_bits : eqb (cast_unsigned w64 a) (cast_unsigned w64 b) ≡ int_eq a b
  same_bits =
      same_from_decides (eqb (cast_unsigned w64 a) (cast_unsigned w64 b)) (int_eq a b)
      (λ e. sym (to_z-of_z w64 a a_fits) ∙ ap (cast_signed w64) ((Decides-eqb (cast_unsigned w64 a) (cast_unsigned w64 b)).0 e) ∙ to_z-of_z w64 b b_fits, λ e. eq-eqb (cast_unsigned w64 a) (cast_unsigned w64 b) (ap (cast_unsigned w64) e))
      (Decides-int_eq a b)

pub gives_back : (op : Symbol) (a b a1 b1 : ℤ) (y : Value) → a1 ≡ a → b1 ≡ b → Gives op (Int a1) (Int b1) y → Gives op (Int a) (Int b) y
gives_back op a b a1 b1 y a_is b_is h = subst (λ (z : ℤ). Gives op (Int z) (Int b) y) a_is (subst (λ (z : ℤ). Gives op (Int a1) (Int z) y) b_is h)

fits_is : (z : ℤ) → FitsSigned w64 z → fits z ≡ true
fits_is (pos n) h = let below : n < 2 ^ 63 = omega (arith, h.sfits) in lt-ltb n (2 ^ 63) below
fits_is (negsuc n) h = let below : n < 2 ^ 63 = omega (arith, h.sfits) in lt-ltb n (2 ^ 63) below

-- a number that 64 bits hold
pub by_number : (result : Option Value) (n : Option ℤ) (z : ℤ) (P : Value → Type 0) → result ≡ option_map (λ x. Int x) n → SomeIff n (FitsSigned w64 z) z → (fits z ≡ true → P (Int z)) → IfSome result P
by_number result None z P e s h = rw e tt
by_number result (Some x) z P e s h = rw (e, s.1) (h (fits_is z s.0))

pub in_range : (n : Option ℤ) (z : ℤ) (P : ℤ → Type 0) → SomeIff n (FitsSigned w64 z) z → (fits z ≡ true → P z) → IfSome n P
in_range None z P s h = tt
in_range (Some x) z P s h = rw s.1 (h (fits_is z s.0))

pub number_within : (result : Option Value) (n : Option ℤ) (P : Value → Type 0) → result ≡ option_map (λ x. Int x) n → ((z : ℤ) → P (Int z)) → IfSome result P
number_within result None P e h = rw e tt
number_within result (Some x) P e h = rw e (h x)

module _ (op : Symbol) (a b x y : ℤ) where
  pub sum_gives : op ≡ symbol.Plus → x ≡ a → y ≡ b → fits (x +ℤ y) ≡ true → Gives op (Int a) (Int b) (Int (x +ℤ y))
  unfolding outcome answered every_value integers
  sum_gives is x_is y_is e at m = rw (is, ← x_is, ← y_is, e) refl

  pub difference_gives : op ≡ symbol.Minus → x ≡ a → y ≡ b → fits (x -ℤ y) ≡ true → Gives op (Int a) (Int b) (Int (x -ℤ y))
  unfolding outcome answered every_value integers
  difference_gives is x_is y_is e at m = rw (is, ← x_is, ← y_is, e) refl

  pub product_gives : op ≡ symbol.Star → x ≡ a → y ≡ b → fits (x *ℤ y) ≡ true → Gives op (Int a) (Int b) (Int (x *ℤ y))
  unfolding outcome answered every_value integers
  product_gives is x_is y_is e at m = rw (is, ← x_is, ← y_is, e) refl

module _ (op : Symbol) (a b : ℤ) (x : Bool) where
  pub equal_gives : op ≡ symbol.Equal → x ≡ int_eq a b → Gives op (Int a) (Int b) (Boolean x)
  unfolding outcome answered every_value
  equal_gives is e at m = rw (is, e) refl

  pub unequal_gives : op ≡ symbol.Unequal → x ≡ int_eq a b → Gives op (Int a) (Int b) (Boolean (not x))
  unfolding outcome answered every_value
  unequal_gives is e at m = rw (is, e) refl

  pub less_gives : op ≡ symbol.Less → x ≡ int_lt a b → Gives op (Int a) (Int b) (Boolean x)
  unfolding outcome answered every_value integers
  less_gives is e at m = rw (is, e) refl

  pub less_equal_gives : op ≡ symbol.LessEqual → x ≡ int_le a b → Gives op (Int a) (Int b) (Boolean x)
  unfolding outcome answered every_value integers
  less_equal_gives is e at m = rw (is, e) refl

  pub greater_gives : op ≡ symbol.Greater → x ≡ int_lt b a → Gives op (Int a) (Int b) (Boolean x)
  unfolding outcome answered every_value integers
  greater_gives is e at m = rw (is, e) refl

  pub greater_equal_gives : op ≡ symbol.GreaterEqual → x ≡ int_le b a → Gives op (Int a) (Int b) (Boolean x)
  unfolding outcome answered every_value integers
  greater_equal_gives is e at m = rw (is, e) refl

module _ (op : Symbol) (a b x : Bool) where
  pub both_gives : op ≡ symbol.Ampersand → x ≡ (a && b) → Gives op (Boolean a) (Boolean b) (Boolean x)
  unfolding outcome answered every_value booleans
  both_gives is e at m = rw (is, e) refl

  pub either_gives : op ≡ symbol.Bar → x ≡ (a || b) → Gives op (Boolean a) (Boolean b) (Boolean x)
  unfolding outcome answered every_value booleans
  either_gives is e at m = rw (is, e) refl
