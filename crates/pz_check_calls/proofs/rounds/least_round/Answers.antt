use Rattle.pz_check_calls.proofs.LeadingBack.{found_back}
use Rattle.pz_check_calls.proofs.rounds.least_round.Goals as goal

pub returns : goal.returns
returns c = found_back c.args.methods.now _ _ _ _ _ c.in_ok-edges.ensures c.as_slice.ensures c.in_ok-numbers.ensures c.as_slice-2.ensures.value c.least_among.ensures
