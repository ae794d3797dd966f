use Rattle.pz_debug_session.proofs.Placed.{one_place}
use Rattle.pz_debug_session.proofs.laws.sessions_have_one_place.Goals as goal

pub returns : goal.returns
returns c = one_place c.rules_are_known.ensures
