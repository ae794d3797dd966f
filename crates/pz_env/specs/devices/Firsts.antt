-- Which of a list are the first with their key, one after the other, where some keys have been seen.
use Rattle.std.specs.Prelude.{Bool, not, List, [], ◌∷◌, ◌++◌, if◌then◌else◌}
use Rattle.std.specs.List.{filter, list_any}

-- each that is the same as none before it
abbrev pub firsts : {X : Type 0} → (X → X → Bool) → List X → List X
firsts same [] = []
firsts same (x ∷ xs) = x ∷ filter (λ y. not (same x y)) (firsts same xs)

module _ {X K : Type 0} (is : K → K → Bool) (key : X → K) where
  abbrev pub has : List K → K → Bool
  has seen k = list_any (is k) seen

  abbrev pub with_key : List K → K → List K
  with_key seen k = if has seen k then seen else seen ++ k ∷ []

  -- those whose key has not been seen
  abbrev pub news : List K → List X → List X
  news seen [] = []
  news seen (x ∷ xs) = if has seen (key x) then news (with_key seen (key x)) xs else x ∷ news (with_key seen (key x)) xs
