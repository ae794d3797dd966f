use Rattle.pz_env_grown.proofs.Kept.{ancestors_same}
use Rattle.pz_env_grown.proofs.laws.grown_models_keep_ancestors.Goals as goal

pub returns : goal.returns
returns c = record { law = λ m n sound grown. ancestors_same m n sound c.ancestors_are_reached.ensures.law grown }
