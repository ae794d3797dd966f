use Rattle.pz_nodes.specs.Arena.{find}
use Rattle.pz_tree_nodes.proofs.Rules.{puts}
use Rattle.pz_tree_nodes.proofs.children.put.Goals as goal

pub returns : goal.returns
returns g c = puts (find c.args.nodes.now) (find c.insert.new.nodes) c.args.head c.args.kids c.args.kept c.args.steps.now c.insert.new.steps c.in_ok-key.key c.in_ok-key.ensures.put c.in_ok-key.ensures.ticks
