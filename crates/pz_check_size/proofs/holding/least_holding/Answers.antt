use Rattle.pz_classes.specs.pz_syntax.ClassView.{model_view}
use Rattle.pz_check_size.proofs.SelfHolding.{found_holding}
use Rattle.pz_check_size.proofs.holding.least_holding.Goals as goal

pub returns : goal.returns
returns c = found_holding (model_view c.args.model.now) _ _ _ c.in_ok-nodes.ensures c.as_slice.ensures c.least_leading_back.ensures
