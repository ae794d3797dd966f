-- The number that a word has.
use Rattle.std.proofs.Common.{◌≡◌, ◌≢◌, refl, sym, ◌∙◌, ap, subst, ℕ, zero, suc, ◌<◌, ◌≤◌, ◌^◌, Bool, true, false, ◌&&◌, ◌||◌, ◌==◌, not, List, [], ◌∷◌, length, get_or, Option, Some, None, Ok, Err, Result, arith}
use Rattle.std.specs.Prelude.{bytes_eq, nat_lt, nat_le}
use Rattle.std.specs.Result.{result_ok, OkIff}
use Rattle.std.specs.Fmt.{decimal}
use Rattle.std.specs.Str.Parse.{ParsesUnsigned, AllDigits, IsNumeral, digits_value}
use Rattle.std.proofs.lemmas.Bool.{lt-ltb, ltb-true, le-leb, leb-true, eqb-true}
use Rattle.std.proofs.lemmas.Slice.Eq.{bytes_eq-Decides}
use Rattle.std.proofs.lemmas.Str.Parse.{IsNumeralModel, numerals_by_value, tells_digits, parse_plain, digit_at}
use Rattle.std.proofs.lemmas.Fmt.{decimal-digits_value, decimal_is_IsNumeral, first_decimal, decimal_digit}
use Rattle.pz_words.specs.Numbers.{IsNumber}
use Rattle.pz_words.specs.devices.Reading.{number_of, number_between, only_if, then_maybe, is_plain}
use Rattle.pz_words.proofs.Outcomes.{false_true, only_if_some, only_if_true, only_if_false, then_some, both_true, true_both}

own : IsNumeralModel (AllDigits 10) (digits_value 10)
own = numerals_by_value (AllDigits 10) tells_digits

abbrev fits : List ℕ → Bool
fits w = nat_lt (digits_value 10 w) (2 ^ 64) && bytes_eq w (decimal (digits_value 10 w))

module _ where
  pub found : (n : ℕ) (w : List ℕ) → IsNumber w n → number_of w ≡ Some n
  found n w is =
      let numeral = decimal_is_IsNumeral n is.short in
      let value : digits_value 10 w ≡ n = ap (digits_value 10) is.digits ∙ numeral.1 in
      let small : digits_value 10 w < 2 ^ 64 = subst (λ (k : ℕ). k < 2 ^ 64) (sym value) is.short in
      let same : w ≡ decimal (digits_value 10 w) = is.digits ∙ ap decimal (sym value) in
      only_if_true _ _ (true_both _ _ (lt-ltb _ _ small) ((bytes_eq-Decides w (decimal (digits_value 10 w))).1 same)) ∙ ap (λ (k : ℕ). Some k) value

  pub is_number : (n : ℕ) (w : List ℕ) → number_of w ≡ Some n → IsNumber w n
  is_number n w e =
      let told = only_if_some _ _ _ e in
      let both = both_true _ _ told.0 in
      let small : digits_value 10 w < 2 ^ 64 = ltb-true _ _ both.0 in
      let same : w ≡ decimal (digits_value 10 w) = (bytes_eq-Decides w (decimal (digits_value 10 w))).0 both.1 in
      record { digits = same ∙ ap decimal told.1; short = subst (λ (k : ℕ). k < 2 ^ 64) told.1 small }

  pub between_found : (least most n : ℕ) (w : List ℕ) → IsNumber w n → least ≤ n → n ≤ most → number_between least most w ≡ Some n
  between_found least most n w is low high =
      ap (λ (o : Option ℕ). then_maybe o (λ k. only_if (nat_le least k && nat_le k most) k)) (found n w is)
      ∙ only_if_true _ _ (true_both _ _ (le-leb _ _ low) (le-leb _ _ high))

  pub is_between : (least most n : ℕ) (w : List ℕ) → number_between least most w ≡ Some n → IsNumber w n × (least ≤ n) × (n ≤ most)
  is_between least most n w e =
      let told = then_some (number_of w) (λ k. only_if (nat_le least k && nat_le k most) k) n e in
      let inner = only_if_some _ _ _ told.2 in
      let both = both_true _ _ inner.0 in
      (is_number n w (told.1 ∙ ap (λ (k : ℕ). Some k) inner.1), subst (λ (k : ℕ). least ≤ k) inner.1 (leb-true _ _ both.0), subst (λ (k : ℕ). k ≤ most) inner.1 (leb-true _ _ both.1))

  in_decimal : (w : List ℕ) → fits w ≡ true → (digits_value 10 w < 2 ^ 64) × (w ≡ decimal (digits_value 10 w))
  in_decimal w e =
      let both = both_true (nat_lt (digits_value 10 w) (2 ^ 64)) (bytes_eq w (decimal (digits_value 10 w))) e in
      (ltb-true (digits_value 10 w) (2 ^ 64) both.0, (bytes_eq-Decides w (decimal (digits_value 10 w))).0 both.1)

  numeral : (w : List ℕ) → fits w ≡ true → IsNumeral 10 w
  numeral w e =
      let is = in_decimal w e in
      subst (IsNumeral 10) (sym is.1) (decimal_is_IsNumeral _ is.0).0

  no_first : (b : ℕ) (more : Bool) → (not (b == 43) && more) ≡ true → b ≢ 43
  no_first b more e first = false_true (sym (ap (λ (k : ℕ). not (k == 43) && more) first) ∙ e)

  no_plus : (w : List ℕ) → is_plain w ≡ true → get_or w 0 0 ≢ 43
  no_plus [] e first = omega (arith, first)
  no_plus (b ∷ []) e first = no_first b _ e first
  no_plus (b ∷ c ∷ bs) e first = no_first b _ e first

  zero_alone : (w : List ℕ) → is_plain w ≡ true → 0 < length w → get_or w 0 0 ≡ 48 → length w ≡ 1
  zero_alone [] e some first = omega (arith, some)
  zero_alone (b ∷ []) e some first = refl
  zero_alone (b ∷ c ∷ bs) e some first = absurd (false_true (sym (ap (λ (k : ℕ). not (k == 43) && (not (k == 48) || false)) first) ∙ e))

  answers : {E : Type 0} (w : List ℕ) (r : Result ℕ E) → is_plain w ≡ true → OkIff r (AllDigits 10 w × (0 < length w) × (digits_value 10 w < 2 ^ 64)) (digits_value 10 w) → result_ok r ≡ number_of w
  answers w (Ok x) plain h =
      let same : decimal (digits_value 10 w) ≡ w = decimal-digits_value own w h.0.0 h.0.1 (zero_alone w plain h.0.1) h.0.2 in
      ap (λ (k : ℕ). Some k) h.1 ∙ sym (only_if_true (fits w) _ (true_both _ _ (lt-ltb _ _ h.0.2) ((bytes_eq-Decides w (decimal (digits_value 10 w))).1 (sym same))))
  answers w (Err x) plain h = sym (only_if_false (fits w) (digits_value 10 w) (λ e. h ((numeral w e).1, (numeral w e).0, (in_decimal w e).0)))

  -- what parses in plain form is the number
  pub parsed : {E : Type 0} (w : List ℕ) (r : Result ℕ E) → ParsesUnsigned 64 10 w r → is_plain w ≡ true → result_ok r ≡ number_of w
  parsed w r h plain = answers w r plain (parse_plain own 64 w r h (no_plus w plain))

  first_digit : (b : ℕ) (bs : List ℕ) → IsNumeral 10 (b ∷ bs) → b ≢ 43
  first_digit b bs is first =
      let within = digit_at (b ∷ bs) 0 is.1 is.0 in
      omega (arith, within.0, first)

  long_zero : (b c : ℕ) (bs : List ℕ) (v : ℕ) → v < 2 ^ 64 → (b ∷ c ∷ bs) ≡ decimal v → b ≢ 48
  long_zero b c bs zero small is first =
      let long : length (b ∷ c ∷ bs) ≡ 1 = ap length (is ∙ decimal_digit 0 (omega arith)) in
      omega (arith, long)
  long_zero b c bs (suc v) small is first =
      let more : 48 < get_or (decimal (suc v)) 0 0 = first_decimal (suc v) (omega arith) small in
      let same : b ≡ get_or (decimal (suc v)) 0 0 = ap (λ (ds : List ℕ). get_or ds 0 0) is in
      omega (arith, more, same, first)

  not_same : (b k : ℕ) → b ≢ k → not (b == k) ≡ true
  not_same b k other = by_answer (b == k) (eqb-true b k)
    where
      by_answer : (r : Bool) → (r ≡ true → b ≡ k) → not r ≡ true
      by_answer true same = absurd (other (same refl))
      by_answer false same = refl

  plain_first : (b : ℕ) (more : Bool) → b ≢ 43 → more ≡ true → (not (b == 43) && more) ≡ true
  plain_first b more other e = true_both _ _ (not_same b 43 other) e

  -- a number is in plain form
  is_plain_number : (w : List ℕ) → fits w ≡ true → is_plain w ≡ true
  is_plain_number [] e = refl
  is_plain_number (b ∷ []) e = plain_first b _ (first_digit b [] (numeral (b ∷ []) e)) (or_true (not (b == 48)))
    where
      or_true : (r : Bool) → (r || true) ≡ true
      or_true true = refl
      or_true false = refl
  is_plain_number (b ∷ c ∷ bs) e =
      let is = in_decimal (b ∷ c ∷ bs) e in
      plain_first b _ (first_digit b (c ∷ bs) (numeral (b ∷ c ∷ bs) e)) (or_false _ (not_same b 48 (long_zero b c bs _ is.0 is.1)))
    where
      or_false : (r : Bool) → r ≡ true → (r || false) ≡ true
      or_false true e = refl
      or_false false e = absurd (false_true e)

  pub no_number : (w : List ℕ) → is_plain w ≡ false → number_of w ≡ None
  no_number w e = only_if_false (fits w) _ (λ yes. false_true (sym e ∙ is_plain_number w yes))
