use Rattle.pz_rules.proofs.WalksAre.{internal_actions_are_listed, sends_are_listed, sends_have_parcels, receives_are_listed, delays_are_listed, troubles_are_listed}
use Rattle.pz_rules.proofs.laws.walks_list_what_is_active.Goals as goal

pub returns : goal.returns
returns c = record {
  internal = internal_actions_are_listed;
  sends = sends_are_listed;
  parcels = sends_have_parcels;
  receives = receives_are_listed;
  delays = delays_are_listed;
  troubles = troubles_are_listed;
}
