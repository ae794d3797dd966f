use Rattle.std.proofs.Common.{sym, subst}
use Rattle.std.specs.Prelude.{IfOk}
use Rattle.pz_part_queries.specs.Standpoints.{seen_from}
use Rattle.pz_tree_nodes.specs.declared.node.Head as lying
use Rattle.pz_tree_nodes.specs.declared.node.Head.TheVariants as kind
use Rattle.pz_tree_nodes.specs.View.{head_view}
use Rattle.pz_tree_refreshing.specs.devices.Asked.{AskRule}
use Rattle.pz_tree_refreshing.proofs.Gates.{plain_what, never_asked}
use Rattle.pz_tree_refreshing.proofs.asking.ask.Goals as goal

pub returns-in-Wait-clause-asked : goal.returns-in-Wait-clause-asked
returns-in-Wait-clause-asked c m class known = never_asked (seen_from m c.args.here.now class c.args.state.now.held) c.args.spot.frame.0 c.args.spot.clock c.in-Wait.due c.in-Wait.pos c.args.head _ c.unasked.result.kept c.in-Wait.is

pub returns-in-Seq-clause-asked : goal.returns-in-Seq-clause-asked
returns-in-Seq-clause-asked c m class known = plain_what (seen_from m c.args.here.now class c.args.state.now.held) c.args.spot.frame.0 c.args.spot.clock c.args.head (kind.Seq c.in-Seq.rest) c.unasked-in-Seq.result c.in-Seq.is c.unasked-in-Seq.ensures.head c.unasked-in-Seq.ensures.kept tt

pub returns-in-Par-clause-asked : goal.returns-in-Par-clause-asked
returns-in-Par-clause-asked c m class known = plain_what (seen_from m c.args.here.now class c.args.state.now.held) c.args.spot.frame.0 c.args.spot.clock c.args.head kind.Par c.unasked-in-Par.result c.in-Par.is c.unasked-in-Par.ensures.head c.unasked-in-Par.ensures.kept tt

pub returns-in-Sel-clause-asked : goal.returns-in-Sel-clause-asked
returns-in-Sel-clause-asked c m class known = plain_what (seen_from m c.args.here.now class c.args.state.now.held) c.args.spot.frame.0 c.args.spot.clock c.args.head kind.Sel c.unasked-in-Sel.result c.in-Sel.is c.unasked-in-Sel.ensures.head c.unasked-in-Sel.ensures.kept tt

pub returns-in-Frame-clause-asked : goal.returns-in-Frame-clause-asked
returns-in-Frame-clause-asked c m class known = plain_what (seen_from m c.args.here.now class c.args.state.now.held) c.args.spot.frame.0 c.args.spot.clock c.args.head (kind.Frame c.in-Frame.frame c.in-Frame.inputs c.in-Frame.results) c.unasked-in-Frame.result c.in-Frame.is c.unasked-in-Frame.ensures.head c.unasked-in-Frame.ensures.kept tt

pub returns-in-Abort-clause-asked : goal.returns-in-Abort-clause-asked
returns-in-Abort-clause-asked c m class known = plain_what (seen_from m c.args.here.now class c.args.state.now.held) c.args.spot.frame.0 c.args.spot.clock c.args.head kind.Abort c.unasked-in-Abort.result c.in-Abort.is c.unasked-in-Abort.ensures.head c.unasked-in-Abort.ensures.kept tt

pub returns-in-Idle-clause-asked : goal.returns-in-Idle-clause-asked
returns-in-Idle-clause-asked c m class known = plain_what (seen_from m c.args.here.now class c.args.state.now.held) c.args.spot.frame.0 c.args.spot.clock c.args.head (kind.Idle c.in-Idle.again c.in-Idle.shift) c.unasked-in-Idle.result c.in-Idle.is c.unasked-in-Idle.ensures.head c.unasked-in-Idle.ensures.kept tt

pub returns-in-Handling-clause-asked : goal.returns-in-Handling-clause-asked
returns-in-Handling-clause-asked c m class known = plain_what (seen_from m c.args.here.now class c.args.state.now.held) c.args.spot.frame.0 c.args.spot.clock c.args.head (kind.Handling c.in-Handling.again c.in-Handling.shift) c.unasked-in-Handling.result c.in-Handling.is c.unasked-in-Handling.ensures.head c.unasked-in-Handling.ensures.kept tt

pub returns-in-Shifted-clause-asked : goal.returns-in-Shifted-clause-asked
returns-in-Shifted-clause-asked c m class known = plain_what (seen_from m c.args.here.now class c.args.state.now.held) c.args.spot.frame.0 c.args.spot.clock c.args.head (kind.Shifted c.in-Shifted.shift) c.unasked-in-Shifted.result c.in-Shifted.is c.unasked-in-Shifted.ensures.head c.unasked-in-Shifted.ensures.kept tt

pub returns-in-Guard-clause-asked : goal.returns-in-Guard-clause-asked
returns-in-Guard-clause-asked c m class known =
    subst (λ (z : lying.Head). IfOk c.ask_guard.result (λ x. AskRule (seen_from m c.args.here.now class c.args.state.now.held) c.args.spot.frame.0 c.args.spot.clock (head_view z) (head_view x.head) x.kept)) (sym c.in-Guard.is)
    (c.ask_guard.ensures.asked m class known)

pub returns-in-Leaf-clause-asked : goal.returns-in-Leaf-clause-asked
returns-in-Leaf-clause-asked c m class known =
    subst (λ (z : lying.Head). IfOk c.ask_leaf.result (λ x. AskRule (seen_from m c.args.here.now class c.args.state.now.held) c.args.spot.frame.0 c.args.spot.clock (head_view z) (head_view x.head) x.kept)) (sym c.in-Leaf.is)
    (c.ask_leaf.ensures.asked m class known)
