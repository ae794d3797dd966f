use Rattle.std.proofs.Common.{ap, sym, ◌∙◌}
use Rattle.pz_nodes.specs.Arena.{find}
use Rattle.pz_tree_nodes.specs.View.{head_view}
use Rattle.pz_tree_regrowing.specs.devices.Reading.{past_key}
use Rattle.pz_tree_regrowing.proofs.Descending.{past_none, past_vacant, past_node}
use Rattle.pz_tree_regrowing.proofs.reading.past_shift.Goals as goal

pub returns-in_default-clause-past : goal.returns-in_default-clause-past
returns-in_default-clause-past g c = past_none (find c.args.nodes.now) c.args.key c.in_default.is

pub returns-in-None-clause-past : goal.returns-in-None-clause-past
returns-in-None-clause-past g c = past_vacant (find c.args.nodes.now) c.args.key _ c.in-Some.own c.in-Some.is c.in-None.ensures.value

pub returns-in-Some-get-clause-past : goal.returns-in-Some-get-clause-past
returns-in-Some-get-clause-past g c = past_node (find c.args.nodes.now) c.args.key c.in-Some.own c.in-Some-get.node.now c.in-Some.is c.in-Some-get.ensures.value c.past.result
    (c.past.ensures ∙ ap (past_key (head_view c.in-Some-get.node.now.what.head) c.in-Some-get.node.now.kids) (sym c.in-Some.is))
