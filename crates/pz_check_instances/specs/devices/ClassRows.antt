-- Things that are listed by their classes.
use Rattle.std.specs.Prelude.{ℕ, List, [], length, map, get_or}
use Rattle.pz_check_instances.specs.declared.by_class.ByClass.{ByClass}

module _ {T : Type 0} where
  -- how many classes have a row
  abbrev pub row_count : ByClass T → ℕ
  row_count things = length things.rows.items

  -- the row of the class of this number
  abbrev pub row : ByClass T → ℕ → List T
  row things k = get_or (map (λ r. r.items) things.rows.items) k []
