-- What a parcel of values has: the objects that the values lead to, each once, and references that
-- are numbers in that list.
use Rattle.std.specs.Prelude.{◌≡◌, ℕ, not, nat_eq, List, [], ◌∷◌, ◌++◌, take, map, filter, Some, slice_get}
use Rattle.std.specs.List.{flat_map, position_or_len}
use Rattle.pz_state.specs.pz_value.declared.value.Value.{Value}
use Rattle.pz_state.specs.Objects.{ObjectView}
use Rattle.pz_state.specs.States.{StateView, object}
use Rattle.pz_copy.specs.References.{references, IsIn, renumbered, renumbered_object}
use Rattle.pz_copy.specs.Parcels.{ParcelView}

-- each number where it occurs first, and not again
abbrev pub firsts : List ℕ → List ℕ
firsts [] = []
firsts (n ∷ ns) = n ∷ filter (λ m. not (nat_eq n m)) (firsts ns)

-- the references of the values, then those of each listed object in turn
abbrev pub mentioned : StateView → List Value → List ℕ → List ℕ
mentioned s values listed = references values ++ flat_map (λ r. references (object s r).items) listed

-- The objects that a parcel of these values has, in order. They are what the equation says, and
-- each is mentioned by the values or by an object that is listed before it.
pub record IsListing (s : StateView) (values : List Value) (listed : List ℕ) : Type 0 where
  pub equation : listed ≡ firsts (mentioned s values listed)
  pub grounded : (i r : ℕ) → slice_get listed i ≡ Some r → IsIn r (mentioned s values (take i listed))

-- there is exactly one such list
pub record HasOneListing (s : StateView) (values : List Value) : Type 0 where
  pub listed : List ℕ
  pub is_one : IsListing s values listed
  pub only : (other : List ℕ) → IsListing s values other → other ≡ listed

-- the place of a number in a list
abbrev pub place_in : List ℕ → ℕ → ℕ
place_in listed r = position_or_len (nat_eq r) listed

abbrev pub packed_objects : StateView → List ℕ → List ObjectView
packed_objects s listed = map (λ r. renumbered_object (place_in listed) (object s r)) listed

-- the values and the listed objects, with the place in the list for each reference
pub record IsParcelOf (s : StateView) (originals : List Value) (p : ParcelView) : Type 0 where
  pub listed : List ℕ
  pub listing : IsListing s originals listed
  pub values : p.values ≡ map (renumbered (place_in listed)) originals
  pub objects : p.objects ≡ packed_objects s listed
