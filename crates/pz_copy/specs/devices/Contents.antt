-- The values and the objects in what a parcel keeps.
use Rattle.std.specs.Prelude.{List, [], ◌∷◌}
use Rattle.pz_state.specs.pz_value.declared.value.Value.{Value}
use Rattle.pz_state.specs.Objects.{ObjectView}
use Rattle.pz_copy.specs.Parcels.{plain_objects}
use Rattle.pz_copy.specs.declared.contents.Contents.{Contents}
use Rattle.pz_copy.specs.declared.contents.Contents.TheVariants as contents

abbrev pub values_of : Contents → List Value
values_of contents.Nothing = []
values_of (contents.One value) = value ∷ []
values_of (contents.Values values) = values.items
values_of (contents.Sharing sharing) = sharing.value.values.items

abbrev pub objects_of : Contents → List ObjectView
objects_of (contents.Sharing sharing) = plain_objects sharing.value.objects.items
objects_of _ = []
