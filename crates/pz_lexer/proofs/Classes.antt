-- What the class of a byte says, and which class a byte has.
use Rattle.std.proofs.Common.{◌≡◌, ℕ, true, false, refl, arith}
use Rattle.std.specs.Prelude.{◌==◌}
use Rattle.std.proofs.lemmas.Bool.{cond_both}
use Rattle.std.proofs.lemmas.Bool.Decides.{nat_tests}
use Rattle.pz_lexer.specs.Bytes.{is_blank, is_letter, is_digit}
use Rattle.pz_lexer.specs.devices.Twin.{Class, blanks, letter, digit, double_quote, single_quote, slash, other, class_of}

-- no class above it
pub record IsOther (b : ℕ) : Type 0 where
  pub no_blank : is_blank b ≡ false
  pub no_letter : is_letter b ≡ false
  pub no_digit : is_digit b ≡ false
  pub no_double_quote : (b == 34) ≡ false
  pub no_single_quote : (b == 39) ≡ false
  pub no_slash : (b == 47) ≡ false

abbrev pub ClassIs : ℕ → Class → Type 0
ClassIs b blanks = is_blank b ≡ true
ClassIs b letter = is_letter b ≡ true
ClassIs b digit = is_digit b ≡ true
ClassIs b double_quote = b ≡ 34
ClassIs b single_quote = b ≡ 39
ClassIs b slash = b ≡ 47
ClassIs b other = IsOther b

pub class_is : (b : ℕ) → ClassIs b (class_of b)
class_is b =
    cond_both (is_blank b) _ _ (ClassIs b) (λ e. e) (λ e0.
    cond_both (is_letter b) _ _ (ClassIs b) (λ e. e) (λ e1.
    cond_both (is_digit b) _ _ (ClassIs b) (λ e. e) (λ e2.
    cond_both (b == 34) _ _ (ClassIs b) (λ e. grind (arith, nat_tests)) (λ e3.
    cond_both (b == 39) _ _ (ClassIs b) (λ e. grind (arith, nat_tests)) (λ e4.
    cond_both (b == 47) _ _ (ClassIs b) (λ e. grind (arith, nat_tests)) (λ e5.
    record { no_blank = e0; no_letter = e1; no_digit = e2; no_double_quote = e3; no_single_quote = e4; no_slash = e5 }))))))

blank_below : (b : ℕ) → is_letter b ≡ true → is_blank b ≡ false
blank_below b e = grind (arith, nat_tests)

digit_apart : (b : ℕ) → is_digit b ≡ true → (is_blank b ≡ false) × (is_letter b ≡ false)
digit_apart b e = grind (arith, nat_tests)

pub class_blank : (b : ℕ) → is_blank b ≡ true → class_of b ≡ blanks
class_blank b e = rw e refl

pub class_letter : (b : ℕ) → is_letter b ≡ true → class_of b ≡ letter
class_letter b e = let n = blank_below b e in rw (n, e) refl

pub class_digit : (b : ℕ) → is_digit b ≡ true → class_of b ≡ digit
class_digit b e = let n = digit_apart b e in rw (n.0, n.1, e) refl

pub class_other : (b : ℕ) → IsOther b → class_of b ≡ other
class_other b o = rw (o.no_blank, o.no_letter, o.no_digit, o.no_double_quote, o.no_single_quote, o.no_slash) refl
