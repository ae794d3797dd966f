use Rattle.pz_gen_laws.proofs.RingLength.{rings_are_short}
use Rattle.pz_gen_laws.proofs.ring_is_short.Goals as goal

pub returns : goal.returns
returns c = record { law = rings_are_short }
