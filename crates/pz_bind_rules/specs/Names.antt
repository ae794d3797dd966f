-- The names of what stands in a system, and of its wires.
use Rattle.std.specs.Prelude.{ℕ, suc, List, [], ◌∷◌, ◌++◌, codes}
use Rattle.std.specs.Option.{option_map_or}
use Rattle.std.specs.Fmt.{decimal}
use Rattle.pz_classes_rules.specs.pz_syntax.Classes.{ModelTree}
use Rattle.pz_bind_levels.specs.Places.{Address}
use Rattle.pz_bind_levels.specs.Wires.{Channel}
use Rattle.pz_bind_rules.specs.Nest.{instance_at}

module _ (m : ModelTree) where
  -- the name of the instance of this number in the level at this place
  abbrev pub name_at : Address → ℕ → List ℕ
  name_at up i = option_map_or (λ x. x.name.name) (instance_at m up i) []

  -- the names of the instances from the system down, joined by dots
  abbrev pub path : Address → List ℕ
  path [] = []
  path (i ∷ []) = name_at [] i
  path (i ∷ j ∷ up) = path (j ∷ up) ++ (codes "." ++ name_at (j ∷ up) i)

  -- the path of the level, and the number of the channel in it, from 1
  abbrev pub wire_name : Channel → List ℕ
  wire_name c = path c.place ++ (codes "#" ++ decimal (suc c.number))
