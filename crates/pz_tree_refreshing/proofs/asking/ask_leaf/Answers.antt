use Rattle.pz_classes_code.specs.StepView.{view}
use Rattle.pz_part_queries.specs.Standpoints.{seen_from}
use Rattle.pz_tree_refreshing.proofs.Gates.{leaf_asked}
use Rattle.pz_tree_refreshing.proofs.asking.ask_leaf.Goals as goal

pub returns-clause-asked : goal.returns-clause-asked
returns-clause-asked c m class known fits may room =
    leaf_asked (seen_from m c.args.here.now class c.args.state.now.held) c.args.spot.frame.0 c.args.spot.clock (view c.args.step) c.in_ok-kept.kept (c.in_ok-kept.ensures.says m class known may room)
