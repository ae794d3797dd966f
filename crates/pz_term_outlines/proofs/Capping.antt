-- Counts that stand still at the end of their type.
use Rattle.std.proofs.Common.{◌≡◌, ◌<◌, ◌+◌, ◌^◌, max, ℕ, leb, List, ◌∷◌, length, drop, get_or, sym, ap, ◌∙◌, arith}
use Rattle.std.proofs.lemmas.Bool.Decides.{nat_tests}
use Rattle.std.proofs.lemmas.List.{drop_more}
use Rattle.pz_term_outlines.specs.Capped.{capped}

pub capped_max : (m n a b result : ℕ) → result ≡ max a b → a ≡ capped m → b ≡ capped n → result ≡ capped (max m n)
capped_max m n a b result greater first second = omega arith

-- below 32 bits nothing is lost
pub low_as_ever : (n high wide limit : ℕ) → high ≡ capped n → wide ≡ limit → limit < 2 ^ 32 → leb high wide ≡ leb n limit
low_as_ever n high wide limit is same low = grind (arith, nat_tests)

more : (m n a greatest result : ℕ) → result ≡ max a greatest → a ≡ capped m → max result (capped n) ≡ max greatest (capped (max m n))
more m n a greatest result greater is = omega arith

-- the greatest of a list so far, and of what is left of the list
module _ {X : Type 0} (number : X → ℕ) (greatest : List X → ℕ) (first : (x : X) (xs : List X) → greatest (x ∷ xs) ≡ max (number x) (greatest xs)) where
  pub greatest_more : (xs : List X) (i : ℕ) (x : X) (n before after whole : ℕ) → i < length xs → x ≡ get_or xs i x → n ≡ capped (number x) → after ≡ max n before
      → max before (capped (greatest (drop i xs))) ≡ whole → max after (capped (greatest (drop (i + 1) xs))) ≡ whole
  greatest_more xs i x n before after whole within is counted greater so_far =
      let next : drop i xs ≡ x ∷ drop (i + 1) xs = drop_more xs i x within ∙ ap (λ (y : X). y ∷ drop (i + 1) xs) (sym is) in
      more (number x) (greatest (drop (i + 1) xs)) n before after greater counted
      ∙ ap (λ (m : ℕ). max before (capped m)) (sym (ap greatest next ∙ first x (drop (i + 1) xs)))
      ∙ so_far
