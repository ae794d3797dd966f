-- `//` and `/*` begin comments.
use Rattle.std.proofs.Common.{◌≡◌, ℕ, List, [], ◌∷◌, ◌++◌, Bool, true, false, refl, sym, ◌∙◌, ap, ap₂, subst, append_assoc}
use Rattle.std.specs.Prelude.{drop}
use Rattle.std.proofs.lemmas.Bool.{false≢true, or_parts, or_from, and_parts, eqb-true}
use Rattle.pz_lexer.specs.Comments.{begins_pair, has_pair, is_in_line, IsLineComment, IsBlockComment}
use Rattle.pz_lexer.specs.declared.sorts.Sort.{Sort}
use Rattle.pz_lexer.specs.Pieces.{a_line_comment, a_block_comment}
use Rattle.pz_lexer.specs.declared.sorts.Reason.{Reason}
use Rattle.pz_lexer.specs.Refusals.{comment}
use Rattle.pz_lexer.specs.devices.Step.{piece, stop, front}
use Rattle.pz_lexer.specs.devices.CommentStep.{Closed, closed, open_end, longer, close_of, block_by, block_step, line_step}
use Rattle.pz_lexer.specs.devices.Twin.{first_step}
use Rattle.pz_lexer.proofs.Runs.{front_run, back_run, front_all, back_begins, front-back}
use Rattle.pz_lexer.proofs.Steps.{IsRight}

pub line_comment_found : (text rest : List ℕ) → IsLineComment text rest → first_step (text ++ rest) ≡ piece text Sort.LineComment rest
line_comment_found text rest c =
    ap (λ t. first_step (t ++ rest)) c.spelling
    ∙ ap₂ (λ x y. piece (47 ∷ 47 ∷ x) Sort.LineComment y) (front_run is_in_line c.body rest c.inside c.whole) (back_run is_in_line c.body rest c.inside c.whole)
    ∙ ap (λ t. piece t Sort.LineComment rest) (sym c.spelling)

pub close-here : (b : ℕ) (bs : List ℕ) → begins_pair 42 47 (b ∷ bs) ≡ true → close_of (b ∷ bs) ≡ closed [] (drop 1 bs)
close-here b bs e = rw (e, close_of) refl

pub close-later : (b : ℕ) (bs : List ℕ) → begins_pair 42 47 (b ∷ bs) ≡ false → close_of (b ∷ bs) ≡ longer b (close_of bs)
close-later b bs e = rw (e, close_of) refl

close_found : (body rest : List ℕ) → has_pair 42 47 (body ++ 42 ∷ []) ≡ false → close_of (body ++ 42 ∷ 47 ∷ rest) ≡ closed body rest
close_found [] rest e = refl
close_found (b ∷ []) rest e = close-later b (42 ∷ 47 ∷ rest) (or_parts _ _ e).0
close_found (b ∷ c ∷ body) rest e =
    let parts = or_parts _ _ e in
    close-later b (c ∷ body ++ 42 ∷ 47 ∷ rest) parts.0 ∙ ap (longer b) (close_found (c ∷ body) rest parts.1)

open_found : (text : List ℕ) → has_pair 42 47 text ≡ false → close_of text ≡ open_end
open_found [] e = refl
open_found (b ∷ bs) e =
    let parts = or_parts _ _ e in
    close-later b bs parts.0 ∙ ap (longer b) (open_found bs parts.1)

pub block_comment_found : (text rest : List ℕ) → IsBlockComment text → first_step (text ++ rest) ≡ piece text Sort.BlockComment rest
block_comment_found text rest c =
    ap (λ t. first_step (t ++ rest)) c.spelling
    ∙ ap block_step (append_assoc c.body (42 ∷ 47 ∷ []) rest)
    ∙ ap (λ k. block_by k (c.body ++ 42 ∷ 47 ∷ rest)) (close_found c.body rest c.first)
    ∙ ap (λ t. piece t Sort.BlockComment rest) (sym c.spelling)

pub open_comment_found : (rest : List ℕ) → has_pair 42 47 rest ≡ false → first_step (47 ∷ 42 ∷ rest) ≡ stop [] (47 ∷ 42 ∷ rest) Reason.OpenComment
open_comment_found rest e = ap (λ k. block_by k rest) (open_found rest e)

pub line_right : (bs : List ℕ) → IsRight (47 ∷ 47 ∷ bs) (line_step bs)
line_right bs = (
  ap (λ t. 47 ∷ 47 ∷ t) (front-back is_in_line bs),
  tt,
  a_line_comment (record { body = front is_in_line bs; spelling = refl; inside = front_all is_in_line bs; whole = back_begins is_in_line bs }),
)

-- it is right where the next `*/` ends
abbrev CloseIs : List ℕ → Closed → Type 0
CloseIs text (closed body rest) = (body ++ 42 ∷ 47 ∷ rest ≡ text) × (has_pair 42 47 (body ++ 42 ∷ []) ≡ false)
CloseIs text open_end = has_pair 42 47 text ≡ false

pair_is : (bs : List ℕ) (b : ℕ) → begins_pair 42 47 (b ∷ bs) ≡ true → 42 ∷ 47 ∷ drop 1 bs ≡ b ∷ bs
pair_is [] b e = absurd (false≢true ((and_parts _ _ e).1))
pair_is (c ∷ cs) b e = let parts = and_parts _ _ e in ap₂ (λ x y. x ∷ y ∷ cs) (sym (eqb-true b 42 parts.0)) (sym (eqb-true c 47 parts.1))

-- a byte is no pair with what follows where that is cut
pair_apart : (b : ℕ) (body rest : List ℕ) → begins_pair 42 47 (b ∷ (body ++ 42 ∷ 47 ∷ rest)) ≡ false → begins_pair 42 47 (b ∷ (body ++ 42 ∷ [])) ≡ false
pair_apart b [] rest e = e
pair_apart b (c ∷ body) rest e = e

close_later_is : (b : ℕ) (bs : List ℕ) (k : Closed) → begins_pair 42 47 (b ∷ bs) ≡ false → CloseIs bs k → CloseIs (b ∷ bs) (longer b k)
close_later_is b bs (closed body rest) apart is =
    (ap (λ t. b ∷ t) is.0, or_from _ _ (pair_apart b body rest (ap (λ t. begins_pair 42 47 (b ∷ t)) is.0 ∙ apart)) is.1)
close_later_is b bs open_end apart is = or_from _ _ apart is

close_is : (text : List ℕ) → CloseIs text (close_of text)
close_is [] = refl
close_is (b ∷ bs) = by (begins_pair 42 47 (b ∷ bs)) refl (close_is bs)
  where
    by : (t : Bool) → begins_pair 42 47 (b ∷ bs) ≡ t → CloseIs bs (close_of bs) → CloseIs (b ∷ bs) (close_of (b ∷ bs))
    by true e is = subst (CloseIs (b ∷ bs)) (sym (close-here b bs e)) (pair_is bs b e, refl)
    by false e is = subst (CloseIs (b ∷ bs)) (sym (close-later b bs e)) (close_later_is b bs (close_of bs) e is)

pub block_right : (bs : List ℕ) → IsRight (47 ∷ 42 ∷ bs) (block_step bs)
block_right bs = by (close_of bs) (close_is bs)
  where
    by : (k : Closed) → CloseIs bs k → IsRight (47 ∷ 42 ∷ bs) (block_by k bs)
    by (closed body rest) is =
        (ap (λ t. 47 ∷ 42 ∷ t) (append_assoc body (42 ∷ 47 ∷ []) rest ∙ is.0), tt, a_block_comment (record { body = body; spelling = refl; first = is.1 }))
    by open_end is = (refl, comment is)
