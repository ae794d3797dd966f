-- A digit begins a number.
use Rattle.std.proofs.Common.{◌≡◌, ◌⊎◌, inl, inr, ℕ, ◌^◌, List, [], ◌∷◌, ◌++◌, Bool, true, false, refl, sym, ◌∙◌, ap, ap₂, subst, append_assoc, arith}
use Rattle.std.specs.Prelude.{◌||◌, ◌==◌, nat_le, pos}
use Rattle.std.proofs.lemmas.Bool.{false≢true, or_left, or_right, or_from, or_parts, or_cases, and_parts, leb-true, leb-false, lt-leb, le-leb, eqb-true}
use Rattle.std.proofs.lemmas.Bool.Decides.{nat_tests}
use Rattle.pz_syntax.specs.declared.tokens.TokenKind.{TokenKind}
use Rattle.pz_lexer.specs.Bytes.{is_digit, is_letter, is_word, begins}
use Rattle.pz_lexer.specs.Numbers.{AreDigits, value_of, begins_fraction, IsInteger, IsFloat}
use Rattle.pz_lexer.specs.declared.sorts.Sort.{Sort}
use Rattle.pz_lexer.specs.Pieces.{an_integer, a_float}
use Rattle.pz_lexer.specs.declared.sorts.Reason.{Reason}
use Rattle.pz_lexer.specs.Refusals.{IsBadNumber, too_large, lettered, lettered_float, number}
use Rattle.pz_lexer.specs.devices.Step.{piece, stop, front, back}
use Rattle.pz_lexer.specs.devices.NumberStep.{number_by, integer_step, float_step, digits_by, digits_step, number_step}
use Rattle.pz_lexer.specs.devices.Twin.{first_step, step_by}
use Rattle.pz_lexer.proofs.Runs.{front_run, back_run, front_all, back_begins, front-back, front_begins, begins-append}
use Rattle.pz_lexer.proofs.Classes.{class_digit}
use Rattle.pz_lexer.proofs.Steps.{IsRight, some_begins}

-- what follows is no word: neither a digit nor a letter
no_word : (text : List ℕ) → begins is_word text ≡ false → (begins is_letter text ≡ false) × (begins is_digit text ≡ false)
no_word [] e = (refl, refl)
no_word (b ∷ bs) e = or_parts _ _ e

no_word_from : (text : List ℕ) → begins is_letter text ≡ false → begins is_digit text ≡ false → begins is_word text ≡ false
no_word_from [] l d = refl
no_word_from (b ∷ bs) l d = or_from _ _ l d

letter_no_digit : (text : List ℕ) → begins is_letter text ≡ true → (begins is_digit text ≡ false) × (begins_fraction text ≡ false)
letter_no_digit [] e = absurd (false≢true e)
letter_no_digit (b ∷ bs) e = (grind (arith, nat_tests), apart b bs e)
  where
    no_dot : (b : ℕ) → is_letter b ≡ true → (b == 46) ≡ false
    no_dot b e = grind (arith, nat_tests)

    apart : (b : ℕ) (bs : List ℕ) → is_letter b ≡ true → begins_fraction (b ∷ bs) ≡ false
    apart b bs e = rw (no_dot b e) refl

-- digits, and what follows them
digits_first : (digits rest : List ℕ) → AreDigits digits → begins is_digit rest ≡ false → first_step (digits ++ rest) ≡ digits_step digits rest
digits_first [] rest d ends = absurd (false≢true d.some)
digits_first (b ∷ bs) rest d ends =
    ap (λ c. step_by c b (bs ++ rest)) (class_digit b d.some)
    ∙ ap₂ digits_step (front_run is_digit (b ∷ bs) rest d.all ends) (back_run is_digit (b ∷ bs) rest d.all ends)

-- digits that are no float
integer_first : (digits rest : List ℕ) → AreDigits digits → begins is_digit rest ≡ false → begins_fraction rest ≡ false → first_step (digits ++ rest) ≡ integer_step digits rest
integer_first digits rest d ends plain = digits_first digits rest d ends ∙ ap (λ t. digits_by t digits rest) plain

-- digits, a `.` and digits
float_first : (digits fraction rest : List ℕ) → AreDigits digits → AreDigits fraction → begins is_digit rest ≡ false → first_step ((digits ++ 46 ∷ fraction) ++ rest) ≡ number_by (begins is_letter rest) (digits ++ 46 ∷ fraction) TokenKind.Float rest
float_first digits fraction rest d f ends =
    ap first_step (append_assoc digits (46 ∷ fraction) rest)
    ∙ digits_first digits (46 ∷ fraction ++ rest) d refl
    ∙ ap (λ t. digits_by t digits (46 ∷ fraction ++ rest)) (begins-append is_digit fraction rest f.some)
    ∙ ap₂ (λ x y. number_by (begins is_letter y) (digits ++ 46 ∷ x) TokenKind.Float y) (front_run is_digit fraction rest f.all ends) (back_run is_digit fraction rest f.all ends)

pub integer_found : (text rest : List ℕ) (value : ℕ) → IsInteger text value rest → first_step (text ++ rest) ≡ piece text (Sort.Token (TokenKind.Int (pos value))) rest
integer_found text rest value i =
    let plain = no_word rest i.whole in
    let fits : nat_le (2 ^ 63) (value_of text) ≡ false = lt-leb _ _ (omega (arith, i.stands_for, i.fits)) in
    integer_first text rest i.digits plain.1 i.no_fraction
    ∙ ap (λ t. number_by t text (TokenKind.Int (pos (value_of text))) rest) (or_from _ _ plain.0 fits)
    ∙ ap (λ n. piece text (Sort.Token (TokenKind.Int (pos n))) rest) i.stands_for

pub float_found : (text rest : List ℕ) → IsFloat text rest → first_step (text ++ rest) ≡ piece text (Sort.Token TokenKind.Float) rest
float_found text rest f =
    let plain = no_word rest f.whole in
    ap (λ t. first_step (t ++ rest)) f.spelling
    ∙ float_first f.front f.fraction rest f.digits f.decimals plain.1
    ∙ ap (λ t. number_by t (f.front ++ 46 ∷ f.fraction) TokenKind.Float rest) plain.0
    ∙ ap (λ t. piece t (Sort.Token TokenKind.Float) rest) (sym f.spelling)

pub bad_number_found : (text : List ℕ) → IsBadNumber text → first_step text ≡ stop [] text Reason.BadNumber
bad_number_found text (too_large digits rest d ends plain large) =
    integer_first digits rest d ends plain
    ∙ ap (λ t. number_by t digits (TokenKind.Int (pos (value_of digits))) rest) (or_right _ _ (le-leb _ _ large))
bad_number_found text (lettered digits rest d letter) =
    let plain = letter_no_digit rest letter in
    integer_first digits rest d plain.0 plain.1
    ∙ ap (λ t. number_by t digits (TokenKind.Int (pos (value_of digits))) rest) (or_left _ _ letter)
bad_number_found text (lettered_float digits fraction rest d f letter) =
    float_first digits fraction rest d f (letter_no_digit rest letter).0
    ∙ ap (λ t. number_by t (digits ++ 46 ∷ fraction) TokenKind.Float rest) letter

integer_right : (digits rest : List ℕ) → AreDigits digits → begins is_digit rest ≡ false → begins_fraction rest ≡ false → IsRight (digits ++ rest) (integer_step digits rest)
integer_right digits rest d ends plain = by (begins is_letter rest || nat_le (2 ^ 63) (value_of digits)) refl
  where
    bad : (begins is_letter rest ≡ true) ⊎ (nat_le (2 ^ 63) (value_of digits) ≡ true) → IsBadNumber (digits ++ rest)
    bad (inl letter) = lettered digits rest d letter
    bad (inr large) = too_large digits rest d ends plain (leb-true _ _ large)

    by : (t : Bool) → (begins is_letter rest || nat_le (2 ^ 63) (value_of digits)) ≡ t → IsRight (digits ++ rest) (number_by t digits (TokenKind.Int (pos (value_of digits))) rest)
    by true e = (refl, number (bad (or_cases _ _ e)))
    by false e =
        let parts = or_parts _ _ e in
        (refl, some_begins is_digit digits d.some, an_integer (record { digits = d; whole = no_word_from rest parts.0 ends; no_fraction = plain; stands_for = refl; fits = leb-false _ _ parts.1 }))

float_right : (digits fraction : List ℕ) → AreDigits digits → begins is_digit fraction ≡ true → IsRight (digits ++ 46 ∷ fraction) (float_step digits fraction)
float_right digits fraction d first = by (begins is_letter (back is_digit fraction)) refl
  where
    decimals : List ℕ
    decimals = front is_digit fraction

    rest : List ℕ
    rest = back is_digit fraction

    f : AreDigits decimals
    f = record { some = front_begins is_digit is_digit fraction first first; all = front_all is_digit fraction }

    spelled_so : (digits ++ 46 ∷ decimals) ++ rest ≡ digits ++ 46 ∷ fraction
    spelled_so = append_assoc digits (46 ∷ decimals) rest ∙ ap (λ t. digits ++ 46 ∷ t) (front-back is_digit fraction)

    by : (t : Bool) → begins is_letter rest ≡ t → IsRight (digits ++ 46 ∷ fraction) (number_by t (digits ++ 46 ∷ decimals) TokenKind.Float rest)
    by true e = (spelled_so, number (lettered_float digits decimals rest d f e))
    by false e = (
      spelled_so,
      some_begins is_digit _ (begins-append is_digit digits (46 ∷ decimals) d.some),
      a_float (record { front = digits; fraction = decimals; spelling = refl; digits = d; decimals = f; whole = no_word_from rest e (back_begins is_digit fraction) }),
    )

digits_right : (digits rest : List ℕ) → AreDigits digits → begins is_digit rest ≡ false → IsRight (digits ++ rest) (digits_step digits rest)
digits_right digits [] d ends = integer_right digits [] d refl refl
digits_right digits (b ∷ bs) d ends = by (begins_fraction (b ∷ bs)) refl
  where
    by : (t : Bool) → begins_fraction (b ∷ bs) ≡ t → IsRight (digits ++ b ∷ bs) (digits_by t digits (b ∷ bs))
    by true e =
        let parts = and_parts _ _ e in
        rw (eqb-true b 46 parts.0) (float_right digits bs d parts.1)
    by false e = integer_right digits (b ∷ bs) d ends e

pub number_right : (text : List ℕ) → begins is_digit text ≡ true → IsRight text (number_step text)
number_right text first =
    subst (λ t. IsRight t (number_step text)) (front-back is_digit text)
    (digits_right (front is_digit text) (back is_digit text) (record { some = front_begins is_digit is_digit text first first; all = front_all is_digit text }) (back_begins is_digit text))
