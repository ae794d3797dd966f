use Rattle.pz_rules.proofs.Pending.{fewer_pending}
use Rattle.pz_rules.proofs.laws.passings_end.Goals as goal

pub returns : goal.returns
returns c = record { law = λ setting config next d wires all is passes. fewer_pending setting config next d wires all is passes }
