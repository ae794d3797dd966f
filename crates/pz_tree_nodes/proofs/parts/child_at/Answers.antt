use Rattle.std.proofs.Common.{◌≡◌, Some, ap, sym}
use Rattle.std.specs.Prelude.{option_map}
use Rattle.pz_nodes.specs.Arena.{find}
use Rattle.pz_nodes_shapes.specs.Seen.{seen, seen_node}
use Rattle.pz_tree_nodes.specs.View.{what_view}
use Rattle.pz_tree_nodes.proofs.Levels.{kid_found}
use Rattle.pz_tree_nodes.proofs.parts.child_at.Goals as goal

pub returns-clause-child : goal.returns-clause-child
returns-clause-child g c =
    let m = seen what_view (find c.args.nodes.now) in
    let n = seen_node what_view c.in-Some-get.node.now in
    let e : m c.in-Some.key ≡ Some n = ap (option_map (seen_node what_view)) (sym c.in-Some-get.ensures.value) in
    kid_found m c.args.spot.key c.in-Some.key c.args.spot.frame.0 c.args.spot.clock c.args.number n c.child_in.result.key c.child_in.result.frame.0 c.child_in.result.clock
    c.in-Some.is e c.child_in.ensures.key c.child_in.ensures.frame c.child_in.ensures.clock
