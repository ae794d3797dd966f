-- What is chosen wherever there are offers: a function of how many choices were made before, and of
-- how many offers there are.
use Rattle.std.specs.Prelude.{ℕ, ◌%◌, List, Option, Some, None, slice_get}
use Rattle.pz_choice.specs.SeededWords.{word}

pub data Resolver : Type 0 where
  always_first : Resolver
  seeded : ℕ → Resolver
  listed : List ℕ → Resolver

-- The choice of number j, from 0, among n offers. A list may name what is no offer, and makes no
-- choice once it is used up.
abbrev pub choice : Resolver → ℕ → ℕ → Option ℕ
choice always_first j n = Some 0
choice (seeded seed) j n = Some (word seed j % n)
choice (listed entries) j n = slice_get entries j

-- the entry of a list that is left over after j choices
abbrev pub left_over : Resolver → ℕ → Option ℕ
left_over always_first j = None
left_over (seeded seed) j = None
left_over (listed entries) j = slice_get entries j
