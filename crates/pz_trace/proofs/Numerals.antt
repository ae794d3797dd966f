-- Numbers and their decimal digits.
use Rattle.std.proofs.Common.{◌≡◌, ◌≤◌, ◌<◌, ◌^◌, refl, sym, ap, subst, ◌∙◌, ℕ, zero, suc, ◌+◌, ◌*◌, ◌/◌, ◌%◌, ◌-◌, List, [], ◌∷◌, ◌++◌, length, get_or, take, arith, length-append, append_assoc}
use Rattle.std.proofs.lemmas.List.{append-nil}
use Rattle.std.proofs.Math.ListN.{get_or-append}
use Rattle.std.proofs.Math.Seq.{take-suc}
use Rattle.std.specs.Char.{digit_value}
use Rattle.std.specs.Int.{IsInRange}
use Rattle.std.specs.Fmt.{decimal}
use Rattle.std.specs.Str.Parse.{AllDigits, digits_value_after, digits_value}
use Rattle.std.proofs.lemmas.Str.{digit_value_digit}
use Rattle.std.proofs.lemmas.Str.Parse.{digit_from_value, digits_value-take-le}
use Rattle.pz_trace.proofs.Digits.{decimal_begins}
use Rattle.std.proofs.lemmas.Fmt.{decimal_is_IsNumeral_wide, decimal_digit, decimal_step_wide, decimal_by_steps_wide}

pub value_is : (d : ℕ) → IsInRange 48 57 d → digit_value d ≡ d - 48
value_is d within = omega (arith, digit_value_digit d within)

-- the number of digits, and one more
value_after_push : (n d : ℕ) (ds : List ℕ) → digits_value_after 10 n (ds ++ (d ∷ [])) ≡ digits_value_after 10 n ds * 10 + digit_value d
value_after_push n d [] = refl
value_after_push n d (c ∷ cs) = value_after_push (n * 10 + digit_value c) d cs

pub value_push : (d : ℕ) (ds : List ℕ) → digits_value 10 (ds ++ (d ∷ [])) ≡ digits_value 10 ds * 10 + digit_value d
value_push d ds = value_after_push 0 d ds

pub digits_push : (d : ℕ) (ds : List ℕ) → AllDigits 10 ds → digit_value d < 10 → AllDigits 10 (ds ++ (d ∷ []))
digits_push d [] all is = (is, tt)
digits_push d (c ∷ cs) all is = (all.0, digits_push d cs all.1 is)

digit_at : (ds : List ℕ) (i : ℕ) → AllDigits 10 ds → i < length ds → digit_value (get_or ds i 0) < 10
digit_at [] i all within = absurd (omega (arith, within))
digit_at (c ∷ cs) zero all within = all.0
digit_at (c ∷ cs) (suc i) all within = digit_at cs i all.1 (omega (arith, within))

le_value_after : (n : ℕ) (ds : List ℕ) → n ≤ digits_value_after 10 n ds
le_value_after n [] = omega arith
le_value_after n (c ∷ cs) = omega (arith, le_value_after (n * 10 + digit_value c) cs)

decimal_after : (n : ℕ) (ds : List ℕ) → 0 < n → AllDigits 10 ds → digits_value_after 10 n ds < 10 ^ 64 → decimal (digits_value_after 10 n ds) ≡ decimal n ++ ds
decimal_after n [] some all small = sym (append-nil (decimal n))
decimal_after n (c ∷ cs) some all small =
    let m : ℕ = n * 10 + digit_value c in
    let k = digit_value_digit c (digit_from_value c all.0) in
    let front : m / 10 ≡ n = omega (arith, all.0) in
    let end : 48 + m % 10 ≡ c = omega (arith, all.0) in
    decimal_after m cs (omega arith) all.1 small
    ∙ ap (λ (l : List ℕ). l ++ cs) (decimal_step_wide m (omega arith) (omega (arith, le_value_after m cs)) ∙ ap (λ (x : ℕ). decimal x ++ ((48 + m % 10) ∷ [])) front ∙ ap (λ (x : ℕ). decimal n ++ (x ∷ [])) end)
    ∙ append_assoc (decimal n) (c ∷ []) cs

-- digits without a leading zero are those of their number
pub decimal_of : (ds : List ℕ) → AllDigits 10 ds → 0 < length ds → (get_or ds 0 0 ≡ 48 → length ds ≡ 1) → digits_value 10 ds < 10 ^ 64 → ds ≡ decimal (digits_value 10 ds)
decimal_of [] all some lead small = absurd (omega arith)
decimal_of (c ∷ []) all some lead small =
    let k = digit_value_digit c (digit_from_value c all.0) in
    let is : 48 + (0 * 10 + digit_value c) ≡ c = omega arith in
    sym (decimal_digit (0 * 10 + digit_value c) (omega (arith, all.0)) ∙ ap (λ (x : ℕ). x ∷ []) is)
decimal_of (c ∷ e ∷ cs) all some lead small =
    let k = digit_value_digit c (digit_from_value c all.0) in
    let no : c ≡ 48 → ⊥ = λ z. omega (arith, lead z) in
    let is : 48 + (0 * 10 + digit_value c) ≡ c = omega arith in
    sym (decimal_after (0 * 10 + digit_value c) (e ∷ cs) (omega arith) all.1 small
    ∙ ap (λ (l : List ℕ). l ++ (e ∷ cs)) (decimal_digit (0 * 10 + digit_value c) (omega (arith, all.0)) ∙ ap (λ (x : ℕ). x ∷ []) is))

pub digits_some : (n : ℕ) (text : List ℕ) → text ≡ decimal n → length text ≡ 0 → ⊥
digits_some n text is none = let begins = decimal_begins n in omega (arith, none, ap (λ (l : List ℕ). length l) (is ∙ begins.is))

-- only 0 begins with the digit 0
first_digit : (n : ℕ) → n < 10 ^ 64 → (0 < length (decimal n)) × (0 < n → 48 < get_or (decimal n) 0 0)
first_digit = decimal_by_steps_wide (λ m ds. (0 < length ds) × (0 < m → 48 < get_or ds 0 0))
    (λ m l. (omega arith, λ a. omega arith))
    (λ m ds l h. (omega (arith, length-append ds ((48 + m % 10) ∷ [])), λ a. omega (arith, get_or-append ds ((48 + m % 10) ∷ []) 0 0 h.0, h.1 (omega arith))))

zero_alone : (n : ℕ) → n < 10 ^ 64 → get_or (decimal n) 0 0 ≡ 48 → length (decimal n) ≡ 1
zero_alone zero small leads = ap (λ (l : List ℕ). length l) (decimal_digit 0 (omega arith))
zero_alone (suc n) small leads = absurd (omega (arith, (first_digit (suc n) small).1 (omega arith), leads))

-- a text that begins with 0 and goes on is that of no number
pub no_leading_zero : (n : ℕ) (text : List ℕ) → n < 2 ^ 128 → text ≡ decimal n → get_or text 0 0 ≡ 48 → length text ≡ 1
no_leading_zero n text small is leads =
    ap (λ (l : List ℕ). length l) is ∙ zero_alone n (omega arith) (ap (λ (l : List ℕ). get_or l 0 0) (sym is) ∙ leads)

-- a text of a number has digits alone, and its fronts are of no greater number
pub record IsFront (text : List ℕ) (n i : ℕ) : Type 0 where
  pub digit : digit_value (get_or text i 0) < 10
  pub value : digits_value 10 (take i text) * 10 + digit_value (get_or text i 0) ≤ n

pub front_of : (n : ℕ) (text : List ℕ) (i : ℕ) → n < 2 ^ 128 → text ≡ decimal n → i < length text → IsFront text n i
front_of n text i small is within =
    let numeral = decimal_is_IsNumeral_wide n (omega arith) in
    let all : AllDigits 10 text = subst (AllDigits 10) (sym is) numeral.0.1 in
    let value : digits_value 10 text ≡ n = ap (digits_value 10) is ∙ numeral.1 in
    record {
      digit = digit_at text i all within;
      value = omega (arith, value, digits_value-take-le 10 text (suc i) (omega arith), ap (digits_value 10) (take-suc text i 0 within), value_push (get_or text i 0) (take i text));
    }

pub decimal_once : (m n : ℕ) → m < 10 ^ 64 → n < 10 ^ 64 → decimal m ≡ decimal n → m ≡ n
decimal_once m n p q e = sym (decimal_is_IsNumeral_wide m p).1 ∙ ap (digits_value 10) e ∙ (decimal_is_IsNumeral_wide n q).1
