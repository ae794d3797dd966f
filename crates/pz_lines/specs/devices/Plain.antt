-- What parses as a number and is one.
use Rattle.std.specs.Prelude.{ℕ, Bool, true, false, ◌&&◌, ◌||◌, ◌==◌, not, List, [], ◌∷◌}

-- no plus first, and no zero before more
abbrev pub is_plain : List ℕ → Bool
is_plain [] = true
is_plain (b ∷ []) = not (b == 43) && (not (b == 48) || true)
is_plain (b ∷ c ∷ bs) = not (b == 43) && (not (b == 48) || false)
