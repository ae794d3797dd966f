use Rattle.std.proofs.Common.{sym, ◌∙◌, ap}
use Rattle.pz_nodes.specs.Arena.{find}
use Rattle.pz_tree_regrowing.specs.devices.Levels.{is_bare_node}
use Rattle.pz_tree_regrowing.proofs.Calls.{shift_bare}
use Rattle.pz_tree_regrowing.proofs.frames.stands_bare.Goals as goal

pub returns-in-Shifted-clause-bare : goal.returns-in-Shifted-clause-bare
returns-in-Shifted-clause-bare g c = shift_bare (find c.args.nodes.now) c.args.key c.in-Some.node.now c.in-Shifted.field-0 c.is_bare_at.result (sym c.in-Some.ensures.value) c.in-Shifted.is
    (c.is_bare_at.ensures.bare ∙ ap (is_bare_node (find c.args.nodes.now)) c.kid_in.ensures)
