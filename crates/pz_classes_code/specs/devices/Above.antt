-- A list of names that begins with the first names of another.
use Rattle.std.specs.Prelude.{◌≡◌, ℕ, zero, suc, List, [], ◌++◌, Option, Some, None, take}
use Rattle.pz_classes_code.specs.declared.numbering.Numbering.{Numbering}
use Rattle.pz_classes_code.specs.NumberIn.{number_in}
use Rattle.pz_classes_code.specs.Places.{place_in}
use Rattle.pz_classes_code.specs.Listed.{Listed}

abbrev pub names_above : Option Listed → List (List ℕ)
names_above None = []
names_above (Some l) = l.names

abbrev pub height_above : Option Listed → ℕ
height_above None = zero
height_above (Some l) = suc l.height

-- what is above comes first
abbrev pub extended : Option Listed → List (List ℕ) → Listed
extended above own = record { names = names_above above ++ own; height = height_above above }

-- so many of the first
abbrev pub front : ℕ → Listed → Listed
front count l = record { names = take count l.names; height = suc l.height }

-- these are the places of the names, of as many as 32 bits number
abbrev pub ArePlaced : List (List ℕ) → Numbering → Type 0
ArePlaced names places = (q : List ℕ) → number_in places q ≡ place_in (take 4294967295 names) q
