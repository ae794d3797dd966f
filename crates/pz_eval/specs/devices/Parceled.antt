-- A parcel as what is found.
use Rattle.std.specs.Prelude.{Result, Ok, Err}
use Rattle.pz_copy.specs.Parcels.{ParcelView}
use Rattle.pz_eval.specs.declared.parcels.Parceled.{Parceled}
use Rattle.pz_eval.specs.declared.parcels.Parceled.TheVariants.{Parcel}

abbrev pub parceled : {E : Type 0} → Result ParcelView E → Result Parceled E
parceled (Ok parcel) = Ok (Parcel parcel)
parceled (Err error) = Err error
