use Rattle.pz_check_size.proofs.SelfHolding.{found_back}
use Rattle.pz_check_size.proofs.leading_back.least_leading_back.Goals as goal

pub returns : goal.returns
returns c = found_back c.args.nodes.now _ _ _ _ _ c.in_ok-edges.ensures c.as_slice.ensures c.in_ok-numbers.ensures c.as_slice-2.ensures.value c.least_among.ensures
