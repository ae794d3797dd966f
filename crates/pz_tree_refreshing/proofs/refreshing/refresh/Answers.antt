use Rattle.std.proofs.Common.{refl, sym}
use Rattle.pz_nodes.specs.Arena.{find}
use Rattle.pz_part_queries.specs.Standpoints.{seen_from}
use Rattle.pz_tree_refreshing.proofs.Levels.{refreshed_still, refreshed_asked}
use Rattle.pz_tree_refreshing.proofs.refreshing.refresh.Goals as goal

pub returns-then-not-kept-clause-refreshed : goal.returns-then-not-kept-clause-refreshed
returns-then-not-kept-clause-refreshed g c m class known =
    let was = c.in-Some.node.now in
    refreshed_still (seen_from m c.args.here.now class c.args.state.now.held) (find c.args.nodes.now) c.args.root.frame.0 c.args.root.clock c.args.root.key was.what.kept c.args.steps.now c.get.new.steps was
    (sym c.in-Some.ensures.value) refl c.if-not-kept.true c.in-Some.ensures.ticks

pub returns-clause-refreshed : goal.returns-clause-refreshed
returns-clause-refreshed g c m class known =
    let was = c.in-Some.node.now in
    refreshed_asked c.nodes_are_no_deeper.ensures.law (seen_from m c.args.here.now class c.args.state.now.held) (find c.args.nodes.now) (find c.refresh_node.new.nodes) c.args.root.frame.0 c.args.root.clock c.args.root.key
    c.fuel_for-fuel.result c.in_ok-refresh_node.field-0 was.what.kept c.args.steps.now c.get.new.steps c.refresh_node.new.steps was
    (sym c.in-Some.ensures.value) refl c.if-not-kept.false c.fuel_for-fuel.ensures c.in-Some.ensures.ticks (c.in_ok-refresh_node.ensures.rule m class known)
