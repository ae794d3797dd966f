use Rattle.pz_nodes.specs.Arena.{find}
use Rattle.pz_tree_regrowing.proofs.HighRounds.{abort_goes_on}
use Rattle.pz_tree_regrowing.proofs.outlining.outline_abort.Goals as goal

pub returns : goal.returns
returns g c = abort_goes_on (find c.args.nodes.now) c.args.kids.now c.args.left c.outline_first.result c.args.steps.now c.height_under-second.new.steps c.args.number c.height_under-second.result c.kid_in.result
    c.if-number-ne0.false c.kid_in.ensures c.height_under-second.ensures.height c.height_under-second.ensures.ticks c.outline_first.ensures.abort
