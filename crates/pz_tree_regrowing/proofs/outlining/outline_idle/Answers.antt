use Rattle.pz_classes_code.specs.StepView.{view}
use Rattle.pz_nodes.specs.Arena.{find}
use Rattle.pz_term_around.specs.pz_part_opening.Homes.{home_view}
use Rattle.pz_tree_regrowing.proofs.HighRounds.{idle_goes_on, idle_second}
use Rattle.pz_tree_regrowing.proofs.outlining.outline_idle.Goals as goal

pub returns-then-number-eq0 : goal.returns-then-number-eq0
returns-then-number-eq0 g c = λ shift. idle_goes_on (find c.args.nodes.now) c.args.kids.now c.args.left c.outline_first.result c.args.steps.now c.height_under-second.new.steps (home_view c.args.home.now) (view c.args.again.now) shift c.args.number
    c.height_under-second.result c.kid_in.result c.if-number-eq0.true c.kid_in.ensures c.height_under-second.ensures.height c.height_under-second.ensures.ticks c.outline_first.ensures.idle

pub returns : goal.returns
returns g c = λ shift. idle_second (find c.args.nodes.now) c.args.kids.now c.args.left c.outline_handling.result c.args.steps.now c.outline_handling.new.steps (home_view c.args.home.now) (view c.args.again.now) shift c.args.number
    c.if-number-eq0.false c.outline_handling.ensures
