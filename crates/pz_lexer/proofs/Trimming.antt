-- Blanks at the end of a text, from the last byte on, and tokens among pieces, one more.
use Rattle.std.proofs.Common.{◌≡◌, ℕ, List, [], ◌∷◌, ◌++◌, Bool, true, false, refl, sym, ◌∙◌, ap, ap₂}
use Rattle.std.specs.Prelude.{◌&&◌, if◌then◌else◌}
use Rattle.std.specs.List.{list_all}
use Rattle.pz_lexer.specs.declared.kept.Piece.{Piece as Kept}
use Rattle.pz_lexer.specs.Bytes.{is_blank}
use Rattle.pz_lexer.specs.Kept.{trimmed, tokens_among}

all_blank-more : (text : List ℕ) (b : ℕ) → is_blank b ≡ true → list_all is_blank (text ++ b ∷ []) ≡ list_all is_blank text
all_blank-more [] b e = rw e refl
all_blank-more (c ∷ cs) b e = ap (λ t. is_blank c && t) (all_blank-more cs b e)

-- a blank at the end counts for nothing
pub trimmed-blank : (text : List ℕ) (b : ℕ) → is_blank b ≡ true → trimmed (text ++ b ∷ []) ≡ trimmed text
trimmed-blank [] b e = rw e refl
trimmed-blank (c ∷ cs) b e = ap₂ (λ a l. if a then [] else c ∷ l) (all_blank-more (c ∷ cs) b e) (trimmed-blank cs b e)

all_blank-end : (text : List ℕ) (b : ℕ) → is_blank b ≡ false → list_all is_blank (text ++ b ∷ []) ≡ false
all_blank-end [] b e = rw e refl
all_blank-end (c ∷ cs) b e = ap (λ t. is_blank c && t) (all_blank-end cs b e) ∙ never (is_blank c)
  where
    never : (t : Bool) → (t && false) ≡ false
    never true = refl
    never false = refl

-- and what ends with another byte stays
pub trimmed-end : (text : List ℕ) (b : ℕ) → is_blank b ≡ false → trimmed (text ++ b ∷ []) ≡ text ++ b ∷ []
trimmed-end [] b e = rw e refl
trimmed-end (c ∷ cs) b e = ap₂ (λ a l. if a then [] else c ∷ l) (all_blank-end (c ∷ cs) b e) (trimmed-end cs b e)

pub tokens_among-append : (xs ys : List Kept) → tokens_among (xs ++ ys) ≡ tokens_among xs ++ tokens_among ys
tokens_among-append [] ys = refl
tokens_among-append (Kept.Token t ∷ xs) ys = ap (λ l. t ∷ l) (tokens_among-append xs ys)
tokens_among-append (Kept.Line text ∷ xs) ys = tokens_among-append xs ys
tokens_among-append (Kept.Block text ∷ xs) ys = tokens_among-append xs ys
