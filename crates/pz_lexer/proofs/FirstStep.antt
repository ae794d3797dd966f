-- What stands first in a text is found, and what is found stands there.
use Rattle.std.proofs.Common.{◌≡◌, ℕ, List, [], ◌∷◌, ◌++◌, Bool, true, false, refl, sym, ap, subst}
use Rattle.std.specs.Prelude.{◌==◌, drop}
use Rattle.std.proofs.lemmas.Bool.{false≢true, eqb-true, or_from}
use Rattle.pz_lexer.specs.Bytes.{begins}
use Rattle.pz_lexer.specs.Comments.{begins_comment}
use Rattle.pz_lexer.specs.declared.sorts.Sort.{Sort}
use Rattle.pz_lexer.specs.Pieces.{IsPiece, a_blank, a_line_comment, a_block_comment, a_word, an_integer, a_float, a_character, a_string, a_symbol}
use Rattle.pz_lexer.specs.declared.sorts.Reason.{Reason}
use Rattle.pz_lexer.specs.Refusals.{Stops, no_token, no_escape_in_string, no_escape_in_character, comment, string, number}
use Rattle.pz_lexer.specs.devices.Step.{piece, stop}
use Rattle.pz_lexer.specs.devices.CommentStep.{slash_step, slash_by}
use Rattle.pz_lexer.specs.devices.Twin.{first_step, Class, blanks, letter, digit, double_quote, single_quote, slash, other, class_of, step_by}
use Rattle.pz_lexer.proofs.Classes.{ClassIs, class_is, class_blank}
use Rattle.pz_lexer.proofs.Steps.{IsRight}
use Rattle.pz_lexer.proofs.WordSteps.{word_found, word_right}
use Rattle.pz_lexer.proofs.NumberSteps.{integer_found, float_found, bad_number_found, number_right}
use Rattle.pz_lexer.proofs.CommentSteps.{line_comment_found, block_comment_found, open_comment_found, line_right, block_right}
use Rattle.pz_lexer.proofs.QuotedSteps.{string_found, character_found, open_string_found, string_escape_found, character_escape_found, string_right, character_right}
use Rattle.pz_lexer.proofs.SymbolSteps.{symbol_found, no_token_found, symbol_right}

pub piece_found : (text : List ℕ) (sort : Sort) (rest : List ℕ) → IsPiece text sort rest → first_step (text ++ rest) ≡ piece text sort rest
piece_found text sort rest (a_blank {b = b} is) = ap (λ c. step_by c b rest) (class_blank b is)
piece_found text sort rest (a_line_comment is) = line_comment_found text rest is
piece_found text sort rest (a_block_comment is) = block_comment_found text rest is
piece_found text sort rest (a_word is) = word_found text rest is
piece_found text sort rest (an_integer {value = value} is) = integer_found text rest value is
piece_found text sort rest (a_float is) = float_found text rest is
piece_found text sort rest (a_character {value = value} is) = character_found text value rest is
piece_found text sort rest (a_string {values = values} is) = string_found text values rest is
piece_found text sort rest (a_symbol {symbol = symbol} is) = symbol_found text symbol rest is

pub stop_found : (before rest : List ℕ) (reason : Reason) → Stops before rest reason → first_step (before ++ rest) ≡ stop before rest reason
stop_found before rest reason (no_token {b = b} {rest = bs} is) = no_token_found b bs is
stop_found before rest reason (no_escape_in_string {inside = inside} {values = values} {rest = bs} are is) = string_escape_found inside values bs are is
stop_found before rest reason (no_escape_in_character {rest = bs} is) = character_escape_found bs is
stop_found before rest reason (comment {rest = bs} is) = open_comment_found bs is
stop_found before rest reason (string is) = open_string_found rest is
stop_found before rest reason (number is) = bad_number_found rest is

pub second_is : (c : ℕ) (bs : List ℕ) → begins (λ b. b == c) bs ≡ true → bs ≡ c ∷ drop 1 bs
second_is c [] e = absurd (false≢true e)
second_is c (b ∷ bs) e = ap (λ x. x ∷ bs) (eqb-true b c e)

slash_right : (bs : List ℕ) → IsRight (47 ∷ bs) (slash_step bs)
slash_right bs = by (begins (λ b. b == 47) bs) (begins (λ b. b == 42) bs) refl refl
  where
    by : (x y : Bool) → begins (λ b. b == 47) bs ≡ x → begins (λ b. b == 42) bs ≡ y → IsRight (47 ∷ bs) (slash_by x y bs)
    by true y e f = subst (λ t. IsRight (47 ∷ t) (slash_by true y bs)) (sym (second_is 47 bs e)) (line_right (drop 1 bs))
    by false true e f = subst (λ t. IsRight (47 ∷ t) (slash_by false true bs)) (sym (second_is 42 bs f)) (block_right (drop 1 bs))
    by false false e f = symbol_right 47 bs refl (or_from _ _ e f)

pub no_slash_apart : (b : ℕ) (bs : List ℕ) → (b == 47) ≡ false → begins_comment (b ∷ bs) ≡ false
no_slash_apart b bs e = rw e refl

pub step_right : (b : ℕ) (bs : List ℕ) → IsRight (b ∷ bs) (first_step (b ∷ bs))
step_right b bs = by (class_of b) refl (class_is b)
  where
    by : (c : Class) → class_of b ≡ c → ClassIs b c → IsRight (b ∷ bs) (step_by c b bs)
    by blanks e is = (refl, tt, a_blank is)
    by letter e is = word_right (b ∷ bs) is
    by digit e is = number_right (b ∷ bs) is
    by double_quote e is = rw is (string_right bs)
    by single_quote e is = rw is (character_right bs)
    by slash e is = rw is (slash_right bs)
    by other e is = symbol_right b bs (rw e refl) (no_slash_apart b bs is.no_slash)
