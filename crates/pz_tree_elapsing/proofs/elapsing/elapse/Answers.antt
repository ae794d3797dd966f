use Rattle.std.proofs.Common.{sym}
use Rattle.pz_nodes.specs.Arena.{find}
use Rattle.pz_tree_refreshing.specs.pz_part_queries.Standpoints.{seen_from}
use Rattle.pz_tree_elapsing.proofs.Levels.{all_elapsed}
use Rattle.pz_tree_elapsing.proofs.elapsing.elapse.Goals as goal

pub returns-clause-elapsed : goal.returns-clause-elapsed
returns-clause-elapsed g c m class known =
    all_elapsed c.nodes_are_no_deeper.ensures.law c.unclocked_is_timeless.ensures.methods c.passing_is_computed.ensures.some
    (seen_from m c.args.here.now class c.args.state.now.held) (find c.args.nodes.now) (find c.elapse_at.new.nodes) c.args.root.frame.0 c.args.root.clock c.args.root.key
    c.fuel_for-fuel.result c.in_ok-elapse_at.field-0 c.args.steps.now c.get.new.steps c.elapse_at.new.steps c.in-Some.node.now
    (sym c.in-Some.ensures.value) c.fuel_for-fuel.ensures c.in-Some.ensures.ticks (c.in_ok-elapse_at.ensures.rule m class known)
