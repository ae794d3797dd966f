-- A list that is gathered: numbers go to its end, each unless it is there.
use Rattle.std.specs.Prelude.{◌≡◌, ◌≤◌, ℕ, nat_eq, List, [], ◌∷◌, Some, length, take, slice_get}
use Rattle.indexmap.specs.IndexSet.{insert_key}
use Rattle.pz_state.specs.pz_value.declared.value.Value.{Value}
use Rattle.pz_state.specs.States.{StateView}
use Rattle.pz_copy.specs.References.{IsIn}
use Rattle.pz_copy.specs.Packing.{mentioned}

abbrev pub gathered : List ℕ → List ℕ → List ℕ
gathered listed [] = listed
gathered listed (n ∷ ns) = gathered (insert_key nat_eq listed n) ns

-- the list, where the references of the values and of so many of its objects were gathered
pub record IsGathered (s : StateView) (values : List Value) (next : ℕ) (listed : List ℕ) : Type 0 where
  pub so_far : listed ≡ gathered [] (mentioned s values (take next listed))
  pub within : next ≤ length listed
  pub grounded : (i r : ℕ) → slice_get listed i ≡ Some r → IsIn r (mentioned s values (take i listed))
