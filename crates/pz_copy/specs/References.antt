-- References in values, which are the numbers of objects, and other numbers in their place.
use Rattle.std.specs.Prelude.{◌≡◌, ℕ, true, nat_eq, List, [], ◌∷◌, map}
use Rattle.std.specs.List.{list_any, flat_map}
use Rattle.pz_state.specs.pz_value.declared.value.Value.{Value}
use Rattle.pz_state.specs.pz_value.declared.value.Value.TheVariants as value
use Rattle.pz_state.specs.Objects.{ObjectView}

abbrev pub reference_of : Value → List ℕ
reference_of (value.Ref r) = r ∷ []
reference_of _ = []

-- the references in values, in their order
abbrev pub references : List Value → List ℕ
references values = flat_map reference_of values

-- it is one of these numbers
abbrev pub IsIn : ℕ → List ℕ → Type 0
IsIn r numbers = list_any (nat_eq r) numbers ≡ true

-- another number in place of a reference; every other value stays
abbrev pub renumbered : (ℕ → ℕ) → Value → Value
renumbered number (value.Ref r) = value.Ref (number r)
renumbered number v = v

abbrev pub renumbered_object : (ℕ → ℕ) → ObjectView → ObjectView
renumbered_object number o = record { class = o.class; items = map (renumbered number) o.items }
