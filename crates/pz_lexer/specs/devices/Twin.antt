-- The cut of a text and its tokens, computed. That they are those of the definition is proved.
use Rattle.std.specs.Prelude.{◌≡◌, ℕ, List, [], ◌∷◌, ◌++◌, ◌==◌, if◌then◌else◌, Result, Ok, Err}
use Rattle.pz_lexer.specs.Bytes.{is_blank, is_letter, is_digit, is_word}
use Rattle.pz_lexer.specs.Words.{word_kind}
use Rattle.pz_lexer.specs.declared.sorts.Sort.{Sort}
use Rattle.pz_lexer.specs.Pieces.{Piece, joined}
use Rattle.pz_lexer.specs.declared.sorts.Reason.{Reason}
use Rattle.pz_lexer.specs.Places.{origin, place_after}
use Rattle.pz_lexer.specs.Tokens.{tokens_of, error_at}
use Rattle.pz_lexer.specs.declared.error.LexError.{LexError}
use Rattle.pz_syntax.specs.declared.tokens.Token.{Token}
use Rattle.pz_lexer.specs.declared.kept.Piece.{Piece as Kept}
use Rattle.pz_lexer.specs.Kept.{with_comments}
use Rattle.pz_lexer.specs.devices.Step.{piece, stop, Step, front, back}
use Rattle.pz_lexer.specs.devices.NumberStep.{number_step}
use Rattle.pz_lexer.specs.devices.QuotedStep.{string_step, character_step}
use Rattle.pz_lexer.specs.devices.SymbolStep.{symbol_step}
use Rattle.pz_lexer.specs.devices.CommentStep.{slash_step}

-- what the first byte of a piece begins
pub data Class : Type 0 where
  blanks : Class
  letter : Class
  digit : Class
  double_quote : Class
  single_quote : Class
  slash : Class
  other : Class

abbrev pub class_of : ℕ → Class
class_of b =
    if is_blank b then blanks
    else (if is_letter b then letter
    else (if is_digit b then digit
    else (if b == 34 then double_quote
    else (if b == 39 then single_quote
    else (if b == 47 then slash
    else other)))))

abbrev pub word_step : List ℕ → Step
word_step text = piece (front is_word text) (Sort.Token (word_kind (front is_word text))) (back is_word text)

abbrev pub step_by : Class → ℕ → List ℕ → Step
step_by blanks b bs = piece (b ∷ []) Sort.Blank bs
step_by letter b bs = word_step (b ∷ bs)
step_by digit b bs = number_step (b ∷ bs)
step_by double_quote b bs = string_step bs
step_by single_quote b bs = character_step bs
step_by slash b bs = slash_step bs
step_by other b bs = symbol_step (b ∷ bs)

-- what stands first in a text that is not empty
abbrev pub first_step : List ℕ → Step
first_step [] = stop [] [] Reason.BadByte
first_step (b ∷ bs) = step_by (class_of b) b bs

-- all pieces; or those before the place where the cut stops
pub data Cut : Type 0 where
  whole : List Piece → Cut
  broken : List Piece → List ℕ → List ℕ → Reason → Cut

abbrev pub more_cut : Piece → Cut → Cut
more_cut p (whole ps) = whole (p ∷ ps)
more_cut p (broken ps before rest reason) = broken (p ∷ ps) before rest reason

abbrev pub cut_by : Step → (List ℕ → Cut) → Cut
cut_by (piece text sort rest) go = more_cut (record { text = text; sort = sort }) (go rest)
cut_by (stop before rest reason) go = broken [] before rest reason

-- the first list bounds how many pieces there may be
abbrev pub cut_of : List ℕ → List ℕ → Cut
cut_of bound [] = whole []
cut_of [] (b ∷ bs) = whole []
cut_of (_ ∷ bound) (b ∷ bs) = cut_by (first_step (b ∷ bs)) (cut_of bound)

abbrev pub answer_of : Cut → Result (List Token) LexError
answer_of (whole ps) = Ok (tokens_of ps)
answer_of (broken ps before rest reason) = Err (error_at reason (place_after origin (joined ps ++ before)))

-- the tokens of a text, or its refusal
abbrev pub lexed : List ℕ → Result (List Token) LexError
lexed text = answer_of (cut_of text text)

abbrev pub pieces_of : Cut → Result (List Kept) LexError
pieces_of (whole ps) = Ok (with_comments ps (tokens_of ps))
pieces_of (broken ps before rest reason) = Err (error_at reason (place_after origin (joined ps ++ before)))

-- the tokens and comments of a text, or its refusal
abbrev pub pieced : List ℕ → Result (List Kept) LexError
pieced text = pieces_of (cut_of text text)

-- an answer of the code that is this one, unless memory ran out
abbrev pub AnswersKept : Result (List Kept) LexError → Result (List Kept) LexError → Type 0
AnswersKept (Ok pieces) answer = answer ≡ Ok pieces
AnswersKept (Err LexError.NoMemory) answer = Unit {0}
AnswersKept (Err error) answer = answer ≡ Err error
