use Rattle.pz_parser.proofs.Erasing.{erased_model}
use Rattle.pz_parser.proofs.laws.places_alone.Goals as goal

pub returns : goal.returns
returns c = erased_model
