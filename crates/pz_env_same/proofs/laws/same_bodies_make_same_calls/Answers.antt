use Rattle.pz_env_same.proofs.Calls.{same_class}
use Rattle.pz_env_same.proofs.laws.same_bodies_make_same_calls.Goals as goal

pub returns : goal.returns
returns c = record { law = same_class c.calls_unfold.ensures.shallow }
