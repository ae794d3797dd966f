use Rattle.pz_sim_laws.proofs.Pairing.{couples_are}
use Rattle.pz_sim_laws.proofs.Rows.{sends_ordered, receives_ordered}
use Rattle.pz_sim_laws.proofs.Verdicts.{receivers_stand}
use Rattle.pz_sim_laws.proofs.laws.pairs_are_those_of_the_rules.Goals as goal

pub returns : goal.returns
returns c =
    let walks = c.walks_list_what_is_active.ensures in
    record {
      couples = λ setting clock ms sends receives ps wires are senders receivers. couples_are setting clock ms are walks.sends walks.parcels walks.receives wires sends receives ps senders receivers;
      receivers = receivers_stand walks.receives c.offered_parts_act.ensures.receives;
      sends = sends_ordered walks.sends;
      receives = receives_ordered walks.receives;
    }
