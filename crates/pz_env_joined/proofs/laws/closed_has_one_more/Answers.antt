use Rattle.pz_env_joined.proofs.Environment.{one_more}
use Rattle.pz_env_joined.proofs.laws.closed_has_one_more.Goals as goal

pub returns : goal.returns
returns c = record { law = λ m script sound accepted. one_more m script (c.sound_systems_fit.ensures.law m sound) accepted }
