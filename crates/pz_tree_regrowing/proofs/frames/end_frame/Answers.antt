use Rattle.pz_nodes.specs.Arena.{find}
use Rattle.pz_rules.specs.View.{term_view}
use Rattle.pz_rules.specs.declared.term.Term.TheVariants as lying
use Rattle.pz_tree_nodes.specs.Dropping.{numbers}
use Rattle.pz_tree_regrowing.proofs.Calls.{done_seen, frame_ends}
use Rattle.pz_tree_regrowing.proofs.Writes.{one_more}
use Rattle.pz_tree_regrowing.proofs.frames.end_frame.Goals as goal

pub returns : goal.returns
returns g c =
    let call = c.args.call in
    λ home clock i fresh. frame_ends home c.args.outer.0 clock c.args.key i call.own call.inputs call.results (find c.args.nodes.now) (find c.release.new.nodes) c.args.state.now c.in_frame.new.state
    (term_view c.in_ok-_done._done) (term_view lying.Done) (numbers c.args.lost.now.items) (numbers c.push.new.self.items) fresh c.args.steps.now c.release.new.steps
    done_seen c.in_ok-_done.ensures c.release.ensures.free (one_more c.args.lost.now.items c.push.new.self.items call.own c.in_ok-push.ensures.items) c.release.ensures.ticks
