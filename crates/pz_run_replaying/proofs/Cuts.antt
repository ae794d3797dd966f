-- Texts that are cut into lines.
use Rattle.std.proofs.Common.{◌≡◌, ◌≤◌, ◌<◌, refl, sym, ap, ◌∙◌, ℕ, zero, suc, List, [], ◌∷◌, ◌++◌, length, take, map, arith, append_assoc, length-append}
use Rattle.std.specs.List.{concat}
use Rattle.std.proofs.lemmas.List.{append-nil}
use Rattle.std.proofs.lemmas.List.Folds.{concat-append}
use Rattle.pz_rules.specs.pz_syntax.ModelForm.{Each}
use Rattle.pz_trace.specs.Lines.{newline}
use Rattle.pz_trace.specs.Laws.{IsLine, OneFirstLine}

-- a line is not empty
pub line_some : (line : List ℕ) → IsLine line → 0 < length line
line_some line x = omega (arith, ap (λ (l : List ℕ). length l) x.ends, length-append x.front newline)

pub each_take : (n : ℕ) (lines : List (List ℕ)) → Each IsLine lines → Each IsLine (take n lines)
each_take zero lines all = tt
each_take (suc n) [] all = tt
each_take (suc n) (line ∷ lines) all = (all.0, each_take n lines all.1)

pub each_both : (lines more : List (List ℕ)) → Each IsLine lines → Each IsLine more → Each IsLine (lines ++ more)
each_both [] more all other = other
each_both (line ∷ lines) more all other = (all.0, each_both lines more all.1 other)

pub each_behind : (lines more : List (List ℕ)) → Each IsLine (lines ++ more) → Each IsLine more
each_behind [] more all = all
each_behind (line ∷ lines) more all = each_behind lines more all.1

pub each_map : {A : Type 0} (f : A → List ℕ) (xs : List A) → Each (λ x. IsLine (f x)) xs → Each IsLine (map f xs)
each_map f [] all = tt
each_map f (x ∷ xs) all = (all.0, each_map f xs all.1)

-- the first lines of a text, and what follows them
pub concat_both : (lines more : List (List ℕ)) (rest : List ℕ) → concat (lines ++ more) ++ rest ≡ concat lines ++ (concat more ++ rest)
concat_both lines more rest = ap (λ (l : List ℕ). l ++ rest) (concat-append lines more) ∙ append_assoc (concat lines) (concat more) rest

pub concat_one : (lines : List (List ℕ)) (line rest : List ℕ) → concat (lines ++ line ∷ []) ++ rest ≡ concat lines ++ (line ++ rest)
concat_one lines line rest = concat_both lines (line ∷ []) rest ∙ ap (λ (l : List ℕ). concat lines ++ (l ++ rest)) (append-nil line)

-- of two lists of lines the longer one begins with the other
pub record GoesOn (lines others : List (List ℕ)) (rest left : List ℕ) : Type 0 where
  pub more : List (List ℕ)
  pub is_more : others ≡ lines ++ more
  pub is_rest : rest ≡ concat more ++ left

module _ (one : OneFirstLine) where
  pub goes_on : (lines others : List (List ℕ)) (rest left : List ℕ) → Each IsLine lines → Each IsLine others → concat lines ++ rest ≡ concat others ++ left → length lines ≤ length others
      → GoesOn lines others rest left
  goes_on [] others rest left all all' e within = record { more = others; is_more = refl; is_rest = e }
  goes_on (x ∷ lines) [] rest left all all' e within = absurd (omega (arith, within))
  goes_on (x ∷ lines) (y ∷ others) rest left all all' e within =
      let same = one x y (concat lines ++ rest) (concat others ++ left) all.0 all'.0 (sym (append_assoc x (concat lines) rest) ∙ e ∙ append_assoc y (concat others) left) in
      let behind = goes_on lines others rest left all.1 all'.1 same.same_rest (omega (arith, within)) in
      record {
        more = behind.more;
        is_more = ap (λ (l : List ℕ). l ∷ others) (sym same.same_line) ∙ ap (λ (ls : List (List ℕ)). x ∷ ls) behind.is_more;
        is_rest = behind.is_rest;
      }

  -- a text that is all lines has at least those that it begins with
  pub has_lines : (lines all : List (List ℕ)) (rest : List ℕ) → Each IsLine lines → Each IsLine all → concat all ≡ concat lines ++ rest → length lines ≤ length all
  has_lines [] all rest are others e = omega arith
  has_lines (x ∷ lines) [] rest are others e =
      absurd (omega (arith, line_some x are.0, ap (λ (l : List ℕ). length l) e, length-append (x ++ concat lines) rest, length-append x (concat lines)))
  has_lines (x ∷ lines) (y ∷ all) rest are others e =
      let same = one x y (concat lines ++ rest) (concat all) are.0 others.0 (sym (append_assoc x (concat lines) rest) ∙ sym e) in
      omega (arith, has_lines lines all rest are.1 others.1 (sym same.same_rest))
