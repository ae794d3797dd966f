use Rattle.std.proofs.Common.{◌≡◌, ◌+◌}
use Rattle.pz_nodes.specs.Arena.{find}
use Rattle.pz_rules.specs.View.{term_view}
use Rattle.pz_tree_nodes.specs.Planting.{nodes_of, Planted}
use Rattle.pz_tree_regrowing.specs.devices.Rounds.{ReplantRule}
use Rattle.pz_tree_regrowing.proofs.Rounds.{replanted}
use Rattle.pz_tree_regrowing.proofs.Writes.{both_ok}
use Rattle.pz_tree_regrowing.proofs.regrowing.replant.Goals as goal

pub returns : goal.returns
returns g c =
    let before = find c.args.nodes.now in
    let after = find c.plant.new.nodes in
    let key = c.args.spot.key in
    let clock = c.args.spot.clock in
    let term = term_view c.args.part in
    both_ok c.plant.result (λ out. Planted (find c.clear.new.nodes) after clock term out) (λ out. ReplantRule before after key clock term out c.args.steps.now c.plant.new.steps) (c.plant.new.steps ≡ c.clear.new.steps + nodes_of term)
    (λ out p t. replanted before (find c.clear.new.nodes) after key clock term out c.args.steps.now c.clear.new.steps c.plant.new.steps c.clear.ensures p t) c.plant.ensures.planted c.plant.ensures.ticks
