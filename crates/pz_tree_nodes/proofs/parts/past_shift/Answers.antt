use Rattle.std.proofs.Common.{ap, sym}
use Rattle.pz_nodes.specs.Arena.{find}
use Rattle.pz_tree_nodes.specs.View.{head_view}
use Rattle.pz_tree_nodes.proofs.Tops.{past_shifted}
use Rattle.pz_tree_nodes.proofs.parts.past_shift.Goals as goal

pub returns-in-Shifted-clause-right : goal.returns-in-Shifted-clause-right
returns-in-Shifted-clause-right g c =
    past_shifted (find c.args.nodes.now) c.args.spot.key c.args.spot.frame.0 c.in-Some.key c.args.spot.clock c.in-Some-get.node.now c.in-Shifted.shift c.kid_in.result c.local_clock.result
    c.in-Some.is (sym c.in-Some-get.ensures.value) (ap head_view c.in-Shifted.is) c.kid_in.ensures c.local_clock.ensures
