use Rattle.std.proofs.lemmas.Result.{IfOk-weaker}
use Rattle.pz_nodes.specs.Arena.{find}
use Rattle.pz_nodes_shapes.specs.Seen.{seen}
use Rattle.pz_rules.specs.View.{term_view}
use Rattle.pz_tree_regrowing.specs.pz_tree_nodes.View.{head_view, what_view}
use Rattle.pz_tree_acting.specs.devices.Parts.{HeadRule, PartRule}
use Rattle.pz_tree_acting.proofs.Found.{none_under, vacant_seen, part_under}
use Rattle.pz_tree_acting.proofs.parts.part_under.Goals as goal

pub returns-in_default-clause-part : goal.returns-in_default-clause-part
returns-in_default-clause-part g c = none_under (seen what_view (find c.args.nodes.now)) c.args.spot.key c.args.spot.clock _ c.in_default.is

pub returns-in-None-clause-part : goal.returns-in-None-clause-part
returns-in-None-clause-part g c = vacant_seen (find c.args.nodes.now) c.args.spot.key c.in-Some.key c.args.spot.clock _ c.in-Some.is c.in-None.ensures.value

pub returns-in-Some-get-clause-part : goal.returns-in-Some-get-clause-part
returns-in-Some-get-clause-part g c = IfOk-weaker c.own_part.result (λ t. HeadRule (head_view c.in-Some-get.node.now.what.head) c.args.spot.clock (term_view t))
    (λ t. PartRule (seen what_view (find c.args.nodes.now)) c.args.spot.key c.args.spot.clock (term_view t))
    (λ t rule. part_under (find c.args.nodes.now) c.args.spot.key c.in-Some.key c.args.spot.clock c.in-Some-get.node.now (term_view t) c.in-Some.is c.in-Some-get.ensures.value rule) c.own_part.ensures
