use Rattle.std.proofs.Common.{◌∙◌, sym}
use Rattle.pz_nodes.specs.Arena.{find}
use Rattle.pz_tree_refreshing.specs.pz_part_queries.Standpoints.{seen_from}
use Rattle.pz_tree_refreshing.specs.pz_tree_standing.Heads.{inner_frame}
use Rattle.pz_tree_refreshing.specs.pz_tree_nodes.View.{head_view}
use Rattle.pz_tree_elapsing.specs.devices.Levels.{first_kid}
use Rattle.pz_tree_elapsing.proofs.Kids.{kept_there, has_returned}
use Rattle.pz_tree_elapsing.proofs.elapsing.returned.Goals as goal

pub returns-clause-rule : goal.returns-clause-rule
returns-clause-rule g c m class known =
    let h = head_view c.args.head.now in
    let n = find c.refresh.new.nodes in
    let key = c.in-Some.key in
    let kept = c.kept_under-kept in
    has_returned (seen_from m c.args.here.now class c.args.state.now.held) (find c.args.nodes.now) n (inner_frame h c.args.outer.frame.0) h c.args.outer.clock key
    c.frame_inside.result.0 c.clock_inside.result c.behind_inside.result kept.result c.later.result (first_kid c.args.kids.now) c.args.steps.now c.refresh.new.steps kept.new.steps
    (sym c.in-Some.is ∙ c.first_kid.ensures) c.frame_inside.ensures c.clock_inside.ensures c.behind_inside.ensures (c.in_ok-refresh.ensures.refreshed m class known)
    (λ was e. kept_there (n key) was kept.result kept.ensures.kept e) c.later.ensures kept.ensures.ticks
