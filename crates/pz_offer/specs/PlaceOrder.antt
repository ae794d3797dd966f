-- The order of places in the terms of processes.
use Rattle.std.specs.Prelude.{◌≡◌, ◌<◌, ◌⊎◌, ℕ, List, [], ◌∷◌}
use Rattle.pz_offer.specs.declared.end.End.{End}

-- numbers of children, from the root to a part
abbrev pub Place : Type 0
Place = List ℕ

-- as words: a front stands before what it begins
abbrev pub PlaceBefore : Place → Place → Type 0
PlaceBefore p [] = ⊥
PlaceBefore [] (j ∷ q) = Unit {0}
PlaceBefore (i ∷ p) (j ∷ q) = (i < j) ⊎ ((i ≡ j) × PlaceBefore p q)

-- by process and then place
abbrev pub EndBefore : End → End → Type 0
EndBefore a b = (a.process < b.process) ⊎ ((a.process ≡ b.process) × PlaceBefore a.place b.place)
