-- A law of receives.
use Rattle.std.specs.Prelude.{◌≡◌, ℕ, Bool, Result}
use Rattle.pz_rules.specs.pz_copy.Parcels.{ParcelView}
use Rattle.pz_rules.specs.pz_offer.declared.trouble.Trouble.{Trouble}
use Rattle.pz_rules.specs.Terms.{Term}
use Rattle.pz_rules.specs.Settings.{Context}
use Rattle.pz_rules.specs.Messages.{Judges}

-- a receive says one thing to a parcel
abbrev pub OneVerdict : Type 0
OneVerdict = (a : Context) (f : ℕ) (parcel : ParcelView) (t : Term) (q r : Result Bool Trouble) → Judges a f parcel t q → Judges a f parcel t r → q ≡ r
