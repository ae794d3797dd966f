use Rattle.pz_sim_laws.proofs.Replacing.{senders_replaced, receivers_replaced, others_truthful}
use Rattle.pz_sim_laws.proofs.laws.others_stay.Goals as goal

pub returns : goal.returns
returns c = record { senders = senders_replaced; receivers = receivers_replaced; truthful = others_truthful }
