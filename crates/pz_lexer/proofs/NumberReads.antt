-- Numbers as the code reads them.
use Rattle.std.proofs.Common.{◌≡◌, ℕ, zero, suc, ◌+◌, ◌*◌, ◌-◌, ◌≤◌, ◌<◌, List, [], ◌∷◌, length, take, drop, get_or, Bool, true, false, Result, Ok, Err, refl, sym, ◌∙◌, ap, ap₂, subst, arith}
use Rattle.std.specs.List.{list_all, fold}
use Rattle.std.proofs.lemmas.List.{take-append-drop}
use Rattle.std.proofs.lemmas.List.Sums.{fold_more, fold-append}
use Rattle.std.proofs.lemmas.Bool.{and_parts}
use Rattle.pz_syntax.specs.declared.tokens.TokenKind.{TokenKind}
use Rattle.pz_lexer.specs.declared.sorts.Sort.{Sort}
use Rattle.pz_lexer.specs.declared.sorts.Reason.{Reason}
use Rattle.pz_lexer.specs.declared.sorts.Found.{Found}
use Rattle.pz_lexer.specs.declared.sorts.Stop.{Stop}
use Rattle.pz_lexer.specs.Bytes.{is_digit, begins}
use Rattle.pz_lexer.specs.Numbers.{value_of, begins_fraction}
use Rattle.pz_lexer.specs.devices.Step.{front, back}
use Rattle.pz_lexer.specs.devices.NumberStep.{number_by, float_step, integer_step, digits_by, digits_step, number_step}
use Rattle.pz_lexer.specs.devices.Gives.{Gives}
use Rattle.pz_lexer.specs.devices.Reading.{Reads}
use Rattle.pz_lexer.proofs.NumberSteps.{number_right}
use Rattle.pz_lexer.proofs.ReadSteps.{reads_from}

pub bad_gives : (t : Bool) (text rest : List ℕ) (kind : TokenKind) → t ≡ true → Gives (number_by t text kind rest) (Err (Stop.Refused Reason.BadNumber 0))
bad_gives t text rest kind e = subst (λ t. Gives (number_by t text kind rest) (Err (Stop.Refused Reason.BadNumber 0))) (sym e) (refl, refl)

pub number_gives : (t : Bool) (text rest : List ℕ) (kind : TokenKind) (found : Found) → t ≡ false → found.len ≡ length text → found.sort ≡ Sort.Token kind → Gives (number_by t text kind rest) (Ok found)
number_gives t text rest kind found e len sort = subst (λ t. Gives (number_by t text kind rest) (Ok found)) (sym e) (len, sort)

-- what passes for a whole list passes for each element
pub passes_at : (sort : ℕ → Bool) (text : List ℕ) (i : ℕ) → list_all sort text ≡ true → i < length text → sort (get_or text i 0) ≡ true
passes_at sort [] i all within = absurd (omega arith)
passes_at sort (b ∷ bs) zero all within = (and_parts _ _ all).0
passes_at sort (b ∷ bs) (suc i) all within = passes_at sort bs i (and_parts _ _ all).1 (omega arith)

-- one more digit
pub value_more : (text : List ℕ) (i : ℕ) → i < length text → value_of (take (i + 1) text) ≡ 10 * value_of (take i text) + (get_or text i 0 - 48)
value_more text i within = fold_more (λ n d. 10 * n + (d - 48)) 0 text i 0 within

value_from : (n : ℕ) (text : List ℕ) → n ≤ fold (λ n d. 10 * n + (d - 48)) n text
value_from n [] = omega arith
value_from n (b ∷ bs) = omega (arith, value_from (10 * n + (b - 48)) bs)

-- more digits stand for no less
pub value_front : (text : List ℕ) (i : ℕ) → value_of (take i text) ≤ value_of text
value_front text i =
    subst (λ t. value_of (take i text) ≤ value_of t) (take-append-drop i text)
    (subst (λ n. value_of (take i text) ≤ n) (sym (fold-append (λ n d. 10 * n + (d - 48)) 0 (take i text) (drop i text))) (value_from (value_of (take i text)) (drop i text)))

pub float_reads : (text digits rest decimals : List ℕ) (result : Result Found Stop) → begins is_digit text ≡ true → digits ≡ front is_digit text → rest ≡ back is_digit text → begins_fraction rest ≡ true → decimals ≡ drop 1 rest → Gives (float_step digits decimals) result → Reads text result
float_reads text digits rest decimals result first front_is back_is dot decimals_are gives =
    let step : number_step text ≡ float_step digits decimals =
    ap₂ digits_step (sym front_is) (sym back_is) ∙ ap (λ t. digits_by t digits rest) dot ∙ ap (float_step digits) (sym decimals_are) in
    reads_from text (number_step text) result (number_right text first) (subst (λ s. Gives s result) (sym step) gives)

pub integer_reads : (text digits rest : List ℕ) (result : Result Found Stop) → begins is_digit text ≡ true → digits ≡ front is_digit text → rest ≡ back is_digit text → begins_fraction rest ≡ false → Gives (integer_step digits rest) result → Reads text result
integer_reads text digits rest result first front_is back_is dot gives =
    let step : number_step text ≡ integer_step digits rest =
    ap₂ digits_step (sym front_is) (sym back_is) ∙ ap (λ t. digits_by t digits rest) dot in
    reads_from text (number_step text) result (number_right text first) (subst (λ s. Gives s result) (sym step) gives)
