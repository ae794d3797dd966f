use Rattle.pz_nodes.specs.Arena.{find}
use Rattle.pz_tree_nodes.proofs.Listed.{all_listed}
use Rattle.pz_tree_nodes.proofs.listing.list_offering.Goals as goal

pub returns : goal.returns
returns g c =
    all_listed c.args.offering (find c.args.nodes.now) c.args.root.key c.args.root.frame.0 c.args.root.clock c.args.levels c.root-place.result c.new-found.result.items c.list_part.new.found.items
    c.root-place.ensures c.new-found.ensures.items c.in_ok-list_part.ensures.adds
