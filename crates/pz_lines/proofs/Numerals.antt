-- The number that a word has.
use Rattle.std.proofs.Common.{◌≡◌, ◌≢◌, refl, sym, ◌∙◌, ap, subst, ℕ, zero, suc, ◌<◌, ◌≤◌, ◌^◌, Bool, true, false, ◌&&◌, ◌||◌, ◌==◌, not, List, [], ◌∷◌, length, get_or, Option, Some, None, Ok, Err, Result, arith, lit<}
use Rattle.std.specs.Prelude.{bytes_eq, nat_lt}
use Rattle.std.specs.Result.{result_ok, OkIff}
use Rattle.std.specs.Fmt.{decimal}
use Rattle.std.specs.Int.{IsInRange}
use Rattle.std.specs.Str.{IsUtf8, IsAscii}
use Rattle.std.specs.Str.Parse.{ParsesUnsigned, AllDigits, IsNumeral, digits_value}
use Rattle.std.proofs.lemmas.Bool.{lt-ltb, ltb-true, eqb-true}
use Rattle.std.proofs.lemmas.Slice.Eq.{bytes_eq-Decides}
use Rattle.std.proofs.lemmas.Str.{IsUtf8-from_ascii}
use Rattle.std.proofs.lemmas.Str.Parse.{IsNumeralModel, numerals_by_value, tells_digits, parse_plain, digit_at}
use Rattle.std.proofs.lemmas.Fmt.{decimal-digits_value, decimal_is_IsNumeral, first_decimal, decimal_digit}
use Rattle.pz_lines.specs.Numbers.{only_if, number_of}
use Rattle.pz_lines.specs.devices.Plain.{is_plain}

-- the word is the numeral of this number, which fits 64 bits
pub record IsNumber (word : List ℕ) (n : ℕ) : Type 0 where
  pub digits : word ≡ decimal n
  pub short : n < 2 ^ 64

false_true : false ≡ true → ⊥
false_true e = cc

pub only_if_true : {A : Type 0} (b : Bool) (x : A) → b ≡ true → only_if b x ≡ Some x
only_if_true true x e = refl
only_if_true false x e = absurd (false_true e)

only_if_false : {A : Type 0} (b : Bool) (x : A) → (b ≡ true → ⊥) → only_if b x ≡ None
only_if_false true x e = absurd (e refl)
only_if_false false x e = refl

both_true : (a b : Bool) → (a && b) ≡ true → (a ≡ true) × (b ≡ true)
both_true true b e = (refl, e)
both_true false b e = absurd (false_true e)

true_both : (a b : Bool) → a ≡ true → b ≡ true → (a && b) ≡ true
true_both true b e f = f
true_both false b e f = absurd (false_true e)

own : IsNumeralModel (AllDigits 10) (digits_value 10)
own = numerals_by_value (AllDigits 10) tells_digits

abbrev fits : List ℕ → Bool
fits w = nat_lt (digits_value 10 w) (2 ^ 64) && bytes_eq w (decimal (digits_value 10 w))

in_decimal : (w : List ℕ) → fits w ≡ true → IsNumber w (digits_value 10 w)
in_decimal w e =
    let both = both_true (nat_lt (digits_value 10 w) (2 ^ 64)) (bytes_eq w (decimal (digits_value 10 w))) e in
    record { digits = (bytes_eq-Decides w (decimal (digits_value 10 w))).0 both.1; short = ltb-true (digits_value 10 w) (2 ^ 64) both.0 }

numeral : (w : List ℕ) → fits w ≡ true → IsNumeral 10 w
numeral w e =
    let is = in_decimal w e in
    subst (IsNumeral 10) (sym is.digits) (decimal_is_IsNumeral _ is.short).0

pub found : (n : ℕ) (w : List ℕ) → IsNumber w n → number_of w ≡ Some n
found n w is =
    let numeral = decimal_is_IsNumeral n is.short in
    let value : digits_value 10 w ≡ n = ap (digits_value 10) is.digits ∙ numeral.1 in
    let small : digits_value 10 w < 2 ^ 64 = subst (λ (k : ℕ). k < 2 ^ 64) (sym value) is.short in
    let same : w ≡ decimal (digits_value 10 w) = is.digits ∙ ap decimal (sym value) in
    only_if_true (fits w) (digits_value 10 w) (true_both (nat_lt (digits_value 10 w) (2 ^ 64)) (bytes_eq w (decimal (digits_value 10 w))) (lt-ltb _ _ small) ((bytes_eq-Decides w (decimal (digits_value 10 w))).1 same)) ∙ ap (λ (k : ℕ). Some k) value

abbrev pub Tells : List ℕ → Option ℕ → Type 0
Tells w None = Unit {0}
Tells w (Some n) = IsNumber w n

pub tells : (w : List ℕ) → Tells w (number_of w)
tells w = by (fits w) (in_decimal w)
  where
    by : (v : Bool) → (v ≡ true → IsNumber w (digits_value 10 w)) → Tells w (only_if v (digits_value 10 w))
    by true is = is refl
    by false is = tt

no_first : (b : ℕ) (more : Bool) → (not (b == 43) && more) ≡ true → b ≢ 43
no_first b more e first = false_true (sym (ap (λ (k : ℕ). not (k == 43) && more) first) ∙ e)

no_plus : (w : List ℕ) → is_plain w ≡ true → get_or w 0 0 ≢ 43
no_plus [] e first = omega (arith, first)
no_plus (b ∷ []) e first = no_first b _ e first
no_plus (b ∷ c ∷ bs) e first = no_first b _ e first

zero_alone : (w : List ℕ) → is_plain w ≡ true → 0 < length w → get_or w 0 0 ≡ 48 → length w ≡ 1
zero_alone [] e some first = omega (arith, some)
zero_alone (b ∷ []) e some first = refl
zero_alone (b ∷ c ∷ bs) e some first = absurd (false_true (sym (ap (λ (k : ℕ). not (k == 43) && (not (k == 48) || false)) first) ∙ e))

answers : {E : Type 0} (w : List ℕ) (r : Result ℕ E) → is_plain w ≡ true → OkIff r (AllDigits 10 w × (0 < length w) × (digits_value 10 w < 2 ^ 64)) (digits_value 10 w) → result_ok r ≡ number_of w
answers w (Ok x) plain h =
    let same : decimal (digits_value 10 w) ≡ w = decimal-digits_value own w h.0.0 h.0.1 (zero_alone w plain h.0.1) h.0.2 in
    ap (λ (k : ℕ). Some k) h.1 ∙ sym (only_if_true (fits w) _ (true_both _ _ (lt-ltb _ _ h.0.2) ((bytes_eq-Decides w (decimal (digits_value 10 w))).1 (sym same))))
answers w (Err x) plain h = sym (only_if_false (fits w) (digits_value 10 w) (λ e. h ((numeral w e).1, (numeral w e).0, (in_decimal w e).short)))

-- what parses in plain form is the number
pub parsed : {E : Type 0} (w : List ℕ) (r : Result ℕ E) → ParsesUnsigned 64 10 w r → is_plain w ≡ true → result_ok r ≡ number_of w
parsed w r h plain = answers w r plain (parse_plain own 64 w r h (no_plus w plain))

first_digit : (b : ℕ) (bs : List ℕ) → IsNumeral 10 (b ∷ bs) → b ≢ 43
first_digit b bs is first =
    let within = digit_at (b ∷ bs) 0 is.1 is.0 in
    omega (arith, within.0, first)

long_zero : (b c : ℕ) (bs : List ℕ) (v : ℕ) → v < 2 ^ 64 → (b ∷ c ∷ bs) ≡ decimal v → b ≢ 48
long_zero b c bs zero small is first =
    let long : length (b ∷ c ∷ bs) ≡ 1 = ap length (is ∙ decimal_digit 0 (omega arith)) in
    omega (arith, long)
long_zero b c bs (suc v) small is first =
    let more : 48 < get_or (decimal (suc v)) 0 0 = first_decimal (suc v) (omega arith) small in
    let same : b ≡ get_or (decimal (suc v)) 0 0 = ap (λ (ds : List ℕ). get_or ds 0 0) is in
    omega (arith, more, same, first)

not_same : (b k : ℕ) → b ≢ k → not (b == k) ≡ true
not_same b k other = by_answer (b == k) (eqb-true b k)
  where
    by_answer : (r : Bool) → (r ≡ true → b ≡ k) → not r ≡ true
    by_answer true same = absurd (other (same refl))
    by_answer false same = refl

plain_first : (b : ℕ) (more : Bool) → b ≢ 43 → more ≡ true → (not (b == 43) && more) ≡ true
plain_first b more other e = true_both _ _ (not_same b 43 other) e

-- a number is in plain form
is_plain_number : (w : List ℕ) → fits w ≡ true → is_plain w ≡ true
is_plain_number [] e = refl
is_plain_number (b ∷ []) e = plain_first b _ (first_digit b [] (numeral (b ∷ []) e)) (or_true (not (b == 48)))
  where
    or_true : (r : Bool) → (r || true) ≡ true
    or_true true = refl
    or_true false = refl
is_plain_number (b ∷ c ∷ bs) e =
    let is = in_decimal (b ∷ c ∷ bs) e in
    plain_first b _ (first_digit b (c ∷ bs) (numeral (b ∷ c ∷ bs) e)) (or_false _ (not_same b 48 (long_zero b c bs _ is.short is.digits)))
  where
    or_false : (r : Bool) → r ≡ true → (r || false) ≡ true
    or_false true e = refl
    or_false false e = absurd (false_true e)

pub no_number : (w : List ℕ) → is_plain w ≡ false → number_of w ≡ None
no_number w e = only_if_false (fits w) (digits_value 10 w) (λ yes. false_true (sym e ∙ is_plain_number w yes))

ascii : (ds : List ℕ) → AllDigits 10 ds → IsAscii ds
ascii [] all i = lit< tt
ascii (d ∷ ds) all zero =
    let digit : IsInRange 48 57 (get_or (d ∷ ds) 0 0) = digit_at (d ∷ ds) 0 all (omega arith) in
    let high : d ≤ 57 = digit.1 in
    omega arith
ascii (d ∷ ds) all (suc i) = ascii ds all.1 i

-- what is no text is no number
pub no_text : (w : List ℕ) → ¬ (IsUtf8 w) → number_of w ≡ None
no_text w none = only_if_false (fits w) (digits_value 10 w) (λ yes. none (IsUtf8-from_ascii w (ascii w (numeral w yes).1)))
