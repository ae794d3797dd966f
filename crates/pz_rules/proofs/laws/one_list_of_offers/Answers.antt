use Rattle.pz_rules.proofs.Orders.{one_list}
use Rattle.pz_rules.proofs.Moments.{offers_some}
use Rattle.pz_rules.proofs.laws.one_list_of_offers.Goals as goal

pub returns : goal.returns
returns c = record { one = one_list; some = λ setting config wires. let os = offers_some setting config wires in (os.list, os.is) }
