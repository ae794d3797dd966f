use Rattle.pz_gen_laws.proofs.Rings.{rings_are_models}
use Rattle.pz_gen_laws.proofs.ring_is_accepted.Goals as goal

pub returns : goal.returns
returns c = record { law = rings_are_models }
