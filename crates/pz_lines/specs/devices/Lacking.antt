-- Texts in which a byte does not stand.
use Rattle.std.specs.Prelude.{◌≢◌, ℕ, List, [], ◌∷◌}

abbrev pub Lacks : ℕ → List ℕ → Type 0
Lacks c [] = Unit {0}
Lacks c (b ∷ bs) = (b ≢ c) × Lacks c bs

-- the byte stands in none of them
abbrev pub EachLacks : ℕ → List (List ℕ) → Type 0
EachLacks c [] = Unit {0}
EachLacks c (w ∷ ws) = Lacks c w × EachLacks c ws
