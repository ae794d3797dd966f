use Rattle.std.proofs.Common.{sym, ◌∙◌}
use Rattle.pz_nodes.specs.Arena.{find}
use Rattle.pz_tree_nodes.proofs.Onward.{none_or, next_acts, next_none, next_into}
use Rattle.pz_tree_nodes.proofs.kth.onward.Goals as goal

pub returns-in-Some-own_action : goal.returns-in-Some-own_action
returns-in-Some-own_action g c =
    next_acts (find c.args.nodes.now) c.args.spot.key c.args.spot.frame.0 c.args.spot.clock c.args.k c.in-Some.key c.in-Some.is c.in-Some-get.node.now (sym c.in-Some-get.ensures.value)
    c.in-Some-own_action.doing (sym c.in-Some-own_action.ensures) c.if-node-k.false

pub returns-in-None : goal.returns-in-None
returns-in-None g c =
    next_none (find c.args.nodes.now) c.args.spot.key c.args.spot.frame.0 c.args.spot.clock c.args.k c.in-Some.key c.in-Some.is c.in-Some-get.node.now (sym c.in-Some-get.ensures.value)
    (sym c.own_action.ensures ∙ none_or c.own_action.result c.in_default-own_action.not-Some) c.as_slice.result.now c.as_slice.ensures c.in-None.ensures

pub returns-in-Some-seek : goal.returns-in-Some-seek
returns-in-Some-seek g c =
    next_into (find c.args.nodes.now) c.args.spot.key c.args.spot.frame.0 c.args.spot.clock c.args.k c.in-Some.key c.in-Some.is c.in-Some-get.node.now (sym c.in-Some-get.ensures.value)
    (sym c.own_action.ensures ∙ none_or c.own_action.result c.in_default-own_action.not-Some) c.as_slice.result.now c.as_slice.ensures c.in-Some-seek.sought c.in-Some-seek.ensures
    c.child_in.result c.past_shift.result c.child_in.ensures.key c.child_in.ensures.frame c.child_in.ensures.clock c.past_shift.ensures.right c.past_shift.ensures.frame
