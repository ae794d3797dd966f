use Rattle.pz_format.proofs.Models.{model_apart}
use Rattle.pz_format.proofs.laws.models_stand_apart.Goals as goal

pub returns : goal.returns
returns c = record { apart = model_apart }
