use Rattle.pz_offer.proofs.Joins.{join_associative, join_left, join_right, shifted_join}
use Rattle.pz_offer.proofs.laws.summaries_join.Goals as goal

pub returns : goal.returns
returns c = record { associative = join_associative; left = join_left; right = join_right; shifts = shifted_join }
