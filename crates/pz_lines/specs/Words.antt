-- Words of a line, and lists of them that are gone through.
use Rattle.std.specs.Prelude.{◌≡◌, ◌≢◌, ℕ, Bool, true, false, ◌&&◌, not, ◌==◌, List, [], ◌∷◌}
use Rattle.std.specs.List.{list_all}
use Rattle.pz_items.specs.Characters.{byte}

-- no blank, and no end of a line
abbrev pub is_inside : ℕ → Bool
is_inside b = not (b == byte " ") && not (b == byte "\n")

-- one word: a byte or more, none of which ends it
pub record IsWord (word : List ℕ) : Type 0 where
  pub some : word ≢ []
  pub inside : list_all is_inside word ≡ true

abbrev pub has_bytes : List ℕ → Bool
has_bytes [] = false
has_bytes (b ∷ bs) = true

-- `IsWord`, computed
abbrev pub is_word : List ℕ → Bool
is_word word = has_bytes word && list_all is_inside word

-- the words of a line that are left, or the lines of a text
abbrev pub Words : Type 0
Words = List (List ℕ)

abbrev pub over : Words → Bool
over [] = true
over (w ∷ ws) = false

-- one with nothing in it, and no other
abbrev pub is_end : Words → Bool
is_end [] = false
is_end ([] ∷ []) = true
is_end ((b ∷ bs) ∷ []) = false
is_end (w ∷ v ∷ ws) = false
