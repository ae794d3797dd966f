-- A text has one cut: into pieces to its end, or up to the place of its refusal.
use Rattle.std.proofs.Common.{◌≡◌, ◌⊎◌, inl, inr, ℕ, ◌≤◌, List, [], ◌∷◌, ◌++◌, length, Result, Ok, Err, refl, sym, ◌∙◌, ap, subst, append_assoc, arith, length-append}
use Rattle.pz_syntax.specs.declared.tokens.Token.{Token}
use Rattle.pz_lexer.specs.declared.error.LexError.{LexError}
use Rattle.pz_lexer.specs.declared.sorts.Sort.{Sort}
use Rattle.pz_lexer.specs.Pieces.{IsPiece, Piece, joined, ArePieces}
use Rattle.std.proofs.lemmas.List.{append-nil}
use Rattle.pz_lexer.specs.declared.sorts.Reason.{Reason}
use Rattle.pz_lexer.specs.Refusals.{Stops, no_token, no_escape_in_string, no_escape_in_character, comment, string, number}
use Rattle.pz_lexer.specs.Tokens.{AreTokens, IsRefused, Answers}
use Rattle.pz_lexer.specs.devices.Step.{Step, piece, stop}
use Rattle.pz_lexer.specs.devices.Twin.{first_step, Cut, whole, broken, more_cut, cut_by, cut_of, answer_of, lexed, pieces_of, pieced, AnswersKept}
use Rattle.pz_lexer.specs.declared.kept.Piece.{Piece as Kept}
use Rattle.pz_lexer.specs.Kept.{AreKept}
use Rattle.pz_lexer.proofs.Steps.{HasByte, some_length, IsRight}
use Rattle.pz_lexer.proofs.FirstStep.{piece_found, stop_found, step_right}

-- a piece has at least one byte
pub piece_some : (text : List ℕ) (sort : Sort) (rest : List ℕ) → IsPiece text sort rest → HasByte text
piece_some (b ∷ bs) sort rest is = tt
piece_some [] sort [] is = let found : stop [] [] Reason.BadByte ≡ piece [] sort [] = piece_found [] sort [] is in cc
piece_some [] sort (b ∷ bs) is = (subst (IsRight (b ∷ bs)) (piece_found [] sort (b ∷ bs) is) (step_right b bs)).1

-- so has what the cut stops at
stop_some : (before rest : List ℕ) (reason : Reason) → Stops before rest reason → HasByte (before ++ rest)
stop_some before rest reason (no_token is) = tt
stop_some before rest reason (no_escape_in_string are is) = tt
stop_some before rest reason (no_escape_in_character is) = tt
stop_some before rest reason (comment is) = tt
stop_some before [] reason (string is) = let found : stop [] [] Reason.BadByte ≡ stop [] [] Reason.OpenString = stop_found [] [] Reason.OpenString (string is) in cc
stop_some before (b ∷ bs) reason (string is) = tt
stop_some before [] reason (number is) = let found : stop [] [] Reason.BadByte ≡ stop [] [] Reason.BadNumber = stop_found [] [] Reason.BadNumber (number is) in cc
stop_some before (b ∷ bs) reason (number is) = tt

-- The cut that the definition allows is found.

add_all : List Piece → Cut → Cut
add_all [] cut = cut
add_all (p ∷ ps) cut = more_cut p (add_all ps cut)

add_whole : (ps : List Piece) → add_all ps (whole []) ≡ whole ps
unfolding add_all
add_whole [] = refl
add_whole (p ∷ ps) = ap (more_cut p) (add_whole ps)

add_broken : (ps : List Piece) (before rest : List ℕ) (reason : Reason) → add_all ps (broken [] before rest reason) ≡ broken ps before rest reason
unfolding add_all
add_broken [] before rest reason = refl
add_broken (p ∷ ps) before rest reason = ap (more_cut p) (add_broken ps before rest reason)

cut_piece : (a : ℕ) (bound text : List ℕ) (sort : Sort) (rest : List ℕ) → IsPiece text sort rest → cut_of (a ∷ bound) (text ++ rest) ≡ more_cut (record { text = text; sort = sort }) (cut_of bound rest)
cut_piece a bound [] sort rest is = absurd (piece_some [] sort rest is)
cut_piece a bound (b ∷ bs) sort rest is = ap (λ s. cut_by s (cut_of bound)) (piece_found (b ∷ bs) sort rest is)

cut_pieces : (ps : List Piece) (rest bound : List ℕ) → ArePieces ps rest → length (joined ps ++ rest) ≤ length bound → (left : List ℕ) × (length rest ≤ length left) × (cut_of bound (joined ps ++ rest) ≡ add_all ps (cut_of left rest))
unfolding add_all
cut_pieces [] rest bound are fits = (bound, fits, refl)
cut_pieces (p ∷ ps) rest [] are fits = absurd (omega (arith, some_length p.text (piece_some p.text p.sort (joined ps ++ rest) are.0), length-append (joined (p ∷ ps)) rest, length-append p.text (joined ps)))
cut_pieces (p ∷ ps) rest (a ∷ bound) are fits =
    let shorter : length (joined ps ++ rest) ≤ length bound = omega (arith, some_length p.text (piece_some p.text p.sort (joined ps ++ rest) are.0), length-append (joined (p ∷ ps)) rest, length-append p.text (joined ps), length-append (joined ps) rest) in
    let others = cut_pieces ps rest bound are.1 shorter in (
      others.0,
      others.1,
      ap (cut_of (a ∷ bound)) (append_assoc p.text (joined ps) rest)
          ∙ cut_piece a bound p.text p.sort (joined ps ++ rest) are.0
          ∙ ap (more_cut p) others.2,
    )

whole_found : (text : List ℕ) (ps : List Piece) → joined ps ≡ text → ArePieces ps [] → cut_of text text ≡ whole ps
whole_found text ps same are =
    let all : joined ps ++ [] ≡ text = append-nil (joined ps) ∙ same in
    let found = cut_pieces ps [] text are (omega (arith, ap length all)) in
    ap (cut_of text) (sym all) ∙ found.2 ∙ add_whole ps

stop_cut : (bound before rest : List ℕ) (reason : Reason) → Stops before rest reason → length (before ++ rest) ≤ length bound → cut_of bound (before ++ rest) ≡ broken [] before rest reason
stop_cut bound before rest reason is fits = by bound (before ++ rest) refl (stop_some before rest reason is) fits (stop_found before rest reason is)
  where
    by : (bound all : List ℕ) → before ++ rest ≡ all → HasByte all → length all ≤ length bound → first_step all ≡ stop before rest reason → cut_of bound all ≡ broken [] before rest reason
    by bound [] same some fits found = absurd some
    by [] (b ∷ bs) same some fits found = absurd (omega arith)
    by (a ∷ bound) (b ∷ bs) same some fits found = ap (λ s. cut_by s (cut_of bound)) found

broken_found : (text : List ℕ) (ps : List Piece) (before rest : List ℕ) (reason : Reason) → joined ps ++ (before ++ rest) ≡ text → ArePieces ps (before ++ rest) → Stops before rest reason → cut_of text text ≡ broken ps before rest reason
broken_found text ps before rest reason same are is =
    let found = cut_pieces ps (before ++ rest) text are (omega (arith, ap length same)) in
    ap (cut_of text) (sym same) ∙ found.2 ∙ ap (add_all ps) (stop_cut found.0 before rest reason is found.1) ∙ add_broken ps before rest reason

-- The cut that is found is one that the definition allows.

abbrev CutIs : List ℕ → Cut → Type 0
CutIs text (whole ps) = (joined ps ≡ text) × ArePieces ps []
CutIs text (broken ps before rest reason) = (joined ps ++ (before ++ rest) ≡ text) × ArePieces ps (before ++ rest) × Stops before rest reason

more_is : (all text : List ℕ) (sort : Sort) (rest : List ℕ) (cut : Cut) → text ++ rest ≡ all → IsPiece text sort rest → CutIs rest cut → CutIs all (more_cut (record { text = text; sort = sort }) cut)
more_is all text sort rest (whole ps) same is cut =
    (ap (λ t. text ++ t) cut.0 ∙ same, (subst (IsPiece text sort) (sym (append-nil (joined ps) ∙ cut.0)) is, cut.1))
more_is all text sort rest (broken ps before after reason) same is cut =
    (append_assoc text (joined ps) (before ++ after) ∙ ap (λ t. text ++ t) cut.0 ∙ same, (subst (IsPiece text sort) (sym cut.0) is, cut.1), cut.2)

cut_is : (bound text : List ℕ) → length text ≤ length bound → CutIs text (cut_of bound text)
cut_is bound [] fits = (refl, tt)
cut_is [] (b ∷ bs) fits = absurd (omega arith)
cut_is (a ∷ bound) (b ∷ bs) fits = by (first_step (b ∷ bs)) (step_right b bs) (cut_is bound)
  where
    by : (s : Step) → IsRight (b ∷ bs) s → ((rest : List ℕ) → length rest ≤ length bound → CutIs rest (cut_of bound rest)) → CutIs (b ∷ bs) (cut_by s (cut_of bound))
    by (piece text sort rest) is others =
        more_is (b ∷ bs) text sort rest (cut_of bound rest) is.0 is.2 (others rest (omega (arith, ap length is.0, length-append text rest, some_length text is.1)))
    by (stop before rest reason) is others = (is.0, tt, is.1)

-- The tokens and the refusal.

pub tokens_lexed : (text : List ℕ) (tokens : List Token) → AreTokens text tokens → lexed text ≡ Ok tokens
tokens_lexed text tokens are = ap answer_of (whole_found text are.pieces are.spelling are.cut) ∙ ap Ok are.kept

pub refusal_lexed : (text : List ℕ) (refusal : LexError) → IsRefused text refusal → lexed text ≡ Err refusal
refusal_lexed text refusal is =
    ap answer_of (broken_found text is.pieces is.before is.rest is.reason is.spelling is.cut is.stops) ∙ ap Err is.error

-- the answer is right
abbrev pub AnswerIs : List ℕ → Result (List Token) LexError → Type 0
AnswerIs text (Ok tokens) = AreTokens text tokens
AnswerIs text (Err refusal) = IsRefused text refusal

pub lexed_is : (text : List ℕ) → AnswerIs text (lexed text)
lexed_is text = by (cut_of text text) (cut_is text text (omega arith))
  where
    by : (cut : Cut) → CutIs text cut → AnswerIs text (answer_of cut)
    by (whole ps) is = record { pieces = ps; spelling = is.0; cut = is.1; kept = refl }
    by (broken ps before rest reason) is = record { pieces = ps; before = before; rest = rest; reason = reason; spelling = is.0; cut = is.1; stops = is.2; error = refl }

-- A text has at most one list of tokens, at most one refusal, and exactly one of the two.

pub one_list : (text : List ℕ) (a b : List Token) → AreTokens text a → AreTokens text b → a ≡ b
one_list text a b is same =
    let first = tokens_lexed text a is in
    let second = tokens_lexed text b same in
    cc

pub one_refusal : (text : List ℕ) (a b : LexError) → IsRefused text a → IsRefused text b → a ≡ b
one_refusal text a b is same =
    let first = refusal_lexed text a is in
    let second = refusal_lexed text b same in
    cc

pub not_both : (text : List ℕ) (tokens : List Token) (refusal : LexError) → AreTokens text tokens → IsRefused text refusal → ⊥
not_both text tokens refusal are is =
    let first = tokens_lexed text tokens are in
    let second = refusal_lexed text refusal is in
    cc

pub either : (text : List ℕ) → ((tokens : List Token) × AreTokens text tokens) ⊎ ((refusal : LexError) × IsRefused text refusal)
either text = by (lexed text) (lexed_is text)
  where
    by : (answer : Result (List Token) LexError) → AnswerIs text answer → ((tokens : List Token) × AreTokens text tokens) ⊎ ((refusal : LexError) × IsRefused text refusal)
    by (Ok tokens) is = inl (tokens, is)
    by (Err refusal) is = inr (refusal, is)

pub tokens_from_lexed : (text : List ℕ) (tokens : List Token) → lexed text ≡ Ok tokens → AreTokens text tokens
tokens_from_lexed text tokens is = subst (AnswerIs text) is (lexed_is text)

pub refusal_from_lexed : (text : List ℕ) (refusal : LexError) → lexed text ≡ Err refusal → IsRefused text refusal
refusal_from_lexed text refusal is = subst (AnswerIs text) is (lexed_is text)

-- what is right is the answer that is computed
pub answers_tokens : (text : List ℕ) (tokens : List Token) → AreTokens text tokens → Answers (Ok tokens) (lexed text)
answers_tokens text tokens are = tokens_lexed text tokens are

pub answers_refusal : (text : List ℕ) (error : LexError) → (error ≡ LexError.NoMemory) ⊎ IsRefused text error → Answers (Err error) (lexed text)
answers_refusal text error (inl none) = rw none tt
answers_refusal text error (inr is) = by error (refusal_lexed text error is)
  where
    by : (error : LexError) → lexed text ≡ Err error → Answers (Err error) (lexed text)
    by LexError.NoMemory e = tt
    by (LexError.BadByte pos) e = e
    by (LexError.OpenComment pos) e = e
    by (LexError.OpenString pos) e = e
    by (LexError.BadNumber pos) e = e

-- The tokens and comments.

pub kept_pieced : (text : List ℕ) (kept : List Kept) → AreKept text kept → pieced text ≡ Ok kept
kept_pieced text kept are = ap pieces_of (whole_found text are.pieces are.spelling are.cut) ∙ ap Ok are.kept_are

refusal_pieced : (text : List ℕ) (refusal : LexError) → IsRefused text refusal → pieced text ≡ Err refusal
refusal_pieced text refusal is =
    ap pieces_of (broken_found text is.pieces is.before is.rest is.reason is.spelling is.cut is.stops) ∙ ap Err is.error

abbrev KeptIs : List ℕ → Result (List Kept) LexError → Type 0
KeptIs text (Ok kept) = AreKept text kept
KeptIs text (Err refusal) = Unit {0}

pieced_is : (text : List ℕ) → KeptIs text (pieced text)
pieced_is text = by (cut_of text text) (cut_is text text (omega arith))
  where
    by : (cut : Cut) → CutIs text cut → KeptIs text (pieces_of cut)
    by (whole ps) is = record { pieces = ps; spelling = is.0; cut = is.1; kept_are = refl }
    by (broken ps before rest reason) is = tt

pub kept_from_pieced : (text : List ℕ) (kept : List Kept) → pieced text ≡ Ok kept → AreKept text kept
kept_from_pieced text kept is = subst (KeptIs text) is (pieced_is text)

pub one_cut : (text : List ℕ) (a b : List Kept) → AreKept text a → AreKept text b → a ≡ b
one_cut text a b is same =
    let first = kept_pieced text a is in
    let second = kept_pieced text b same in
    cc

pub answers_kept : (text : List ℕ) (kept : List Kept) → AreKept text kept → AnswersKept (Ok kept) (pieced text)
answers_kept text kept are = kept_pieced text kept are

pub refuses_kept : (text : List ℕ) (error : LexError) → (error ≡ LexError.NoMemory) ⊎ IsRefused text error → AnswersKept (Err error) (pieced text)
refuses_kept text error (inl none) = rw none tt
refuses_kept text error (inr is) = by error (refusal_pieced text error is)
  where
    by : (error : LexError) → pieced text ≡ Err error → AnswersKept (Err error) (pieced text)
    by LexError.NoMemory e = tt
    by (LexError.BadByte pos) e = e
    by (LexError.OpenComment pos) e = e
    by (LexError.OpenString pos) e = e
    by (LexError.BadNumber pos) e = e
