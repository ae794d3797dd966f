-- What unpacking a parcel leaves: its objects behind those that were there, and references that are
-- as much greater as there were objects.
use Rattle.std.specs.Prelude.{ℕ, ◌+◌, List, ◌++◌, length, map}
use Rattle.pz_state.specs.pz_value.declared.value.Value.{Value}
use Rattle.pz_state.specs.Objects.{ObjectView}
use Rattle.pz_state.specs.States.{StateView}
use Rattle.pz_copy.specs.References.{renumbered, renumbered_object}
use Rattle.pz_copy.specs.Parcels.{ParcelView}

abbrev pub shifted_values : ℕ → List Value → List Value
shifted_values count values = map (renumbered (λ r. count + r)) values

abbrev pub unpacked_values : StateView → ParcelView → List Value
unpacked_values s p = shifted_values (length s.objects) p.values

abbrev pub shifted_objects : ℕ → List ObjectView → List ObjectView
shifted_objects count objects = map (renumbered_object (λ r. count + r)) objects

abbrev pub unpacked : StateView → ParcelView → StateView
unpacked s p = record s { objects = s.objects ++ shifted_objects (length s.objects) p.objects }
