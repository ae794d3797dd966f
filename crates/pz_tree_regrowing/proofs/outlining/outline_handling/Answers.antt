use Rattle.pz_classes_code.specs.StepView.{view}
use Rattle.pz_nodes.specs.Arena.{find}
use Rattle.pz_term_around.specs.pz_part_opening.Homes.{home_view}
use Rattle.pz_tree_regrowing.proofs.HighRounds.{second_acts}
use Rattle.pz_tree_regrowing.proofs.outlining.outline_handling.Goals as goal

pub returns : goal.returns
returns g c = second_acts (find c.args.nodes.now) c.args.kids.now c.args.left c.outline_second.result c.args.steps.now c.height_under-first.new.steps (home_view c.args.home.now) (view c.args.again.now) c.height_under-first.result c.kid_in.result
    c.kid_in.ensures c.height_under-first.ensures.height c.height_under-first.ensures.ticks c.outline_second.ensures
