-- How a part acts: by itself, or in a communication with this parcel.
use Rattle.pz_tree_standing.specs.pz_copy.Parcels.{ParcelView}
use Rattle.pz_tree_standing.specs.pz_rules.InternalActions.{Performs}
use Rattle.pz_tree_standing.specs.pz_rules.Messages.{Hands, Takes}
use Rattle.pz_tree_standing.specs.pz_rules.Steps.{Deed}

pub data Manner : Type 0 where
  alone : Manner
  handing : ParcelView → Manner
  taking : ParcelView → Manner

abbrev pub deed : Manner → Deed
deed alone = Performs
deed (handing parcel) = λ a f. Hands a f parcel
deed (taking parcel) = λ a f. Takes a f parcel
