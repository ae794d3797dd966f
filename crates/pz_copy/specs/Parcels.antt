-- What a parcel is seen as, and what its type keeps.
use Rattle.std.specs.Prelude.{◌<◌, ◌≤◌, ◌^◌, List, length, All, map}
use Rattle.pz_state.specs.States.{object_limit}
use Rattle.pz_state.specs.pz_value.declared.value.Value.{Value}
use Rattle.pz_state.specs.Objects.{ObjectView, StoredObject}
use Rattle.pz_state.specs.References.{RefersWithin}

-- values, and the objects that their references name by their places in the list
pub record ParcelView : Type 0 where
  pub values : List Value
  pub objects : List ObjectView

abbrev pub plain_objects : List StoredObject → List ObjectView
plain_objects objects = map (λ o. o.object) objects

-- Each reference is the number of one of its objects. There are no more objects than a state can have,
-- and none of them has 2^32 items.
pub record IsParcel (p : ParcelView) : Type 0 where
  pub values : All (RefersWithin (length p.objects)) p.values
  pub items : All (λ o. All (RefersWithin (length p.objects)) o.items) p.objects
  pub few : length p.objects ≤ object_limit
  pub sizes : All (λ o. length o.items < 2 ^ 32) p.objects
