-- What a numbering of names stands for.
use Rattle.std.specs.Prelude.{ℕ, nat_lt, List, Option, Some, None, if◌then◌else◌}
use Rattle.std.specs.Str.{bytes_eq}
use Rattle.indexmap.specs.IndexMap.{get_by}
use Rattle.pz_classes_code.specs.declared.numbering.Numbering.{Numbering}

-- the number of the name
abbrev pub number_in : Numbering → List ℕ → Option ℕ
number_in n name = get_by (λ k. bytes_eq name k.items) n.map

-- a number that is below the bound
abbrev pub below : ℕ → Option ℕ → Option ℕ
below bound None = None
below bound (Some n) = if nat_lt n bound then Some n else None

-- the number of the name, if it has one below the bound
abbrev pub number_below : ℕ → Numbering → List ℕ → Option ℕ
number_below bound n name = below bound (number_in n name)
