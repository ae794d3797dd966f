-- What the outcome of an evaluation into a parcel means.
use Rattle.std.specs.Prelude.{ℕ, Result, Ok, Err}
use Rattle.pz_classes_code.specs.pz_syntax.declared.tokens.Pos.{Pos}
use Rattle.pz_rules.specs.pz_copy.Parcels.{ParcelView}
use Rattle.pz_rules.specs.pz_offer.declared.trouble.Trouble.{Trouble}
use Rattle.pz_rules.specs.pz_offer.declared.trouble.Trouble.TheVariants.{Fault, Spent}
use Rattle.pz_eval.specs.declared.parcels.Parceled.{Parceled}
use Rattle.pz_eval.specs.declared.parcels.Parceled.TheVariants as parceled

abbrev pub parcel_or_trouble : ℕ → Pos → Parceled → Result ParcelView Trouble
parcel_or_trouble i at (parceled.Parcel p) = Ok p
parcel_or_trouble i at (parceled.Fault kind place) = Err (Fault kind i place)
parcel_or_trouble i at parceled.Spent = Err (Spent i at)
