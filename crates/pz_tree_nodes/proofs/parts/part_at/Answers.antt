use Rattle.std.proofs.Common.{get_or, ap, arith}
use Rattle.std.proofs.lemmas.List.{drop_more}
use Rattle.pz_nodes.specs.Arena.{find}
use Rattle.pz_nodes_shapes.specs.Seen.{seen}
use Rattle.pz_rules.specs.pz_state.declared.state.FrameId.{FrameId}
use Rattle.pz_tree_nodes.specs.View.{what_view}
use Rattle.pz_tree_nodes.proofs.Ways.{sets_out, goes_on, arrived}
use Rattle.pz_tree_nodes.proofs.parts.part_at.Goals as goal

pub loop-number-init : goal.loop-number-init
loop-number-init g c = record {
  way = sets_out (seen what_view (find c.args.nodes.now)) c.args.root.key c.args.root.frame.0 c.args.root.clock c.args.place.now
      c.past_shift-spot.result.key c.past_shift-spot.result.frame.0 c.past_shift-spot.result.clock c.past_shift-spot.ensures.past (ap (λ (z : FrameId). z.0) c.past_shift-spot.ensures.frame);
  ticks = omega arith;
}

pub loop-number-preserved : goal.loop-number-preserved
loop-number-preserved g c =
    let place = c.args.place.now in
    let i = c.loop-number.number-index in
    let from = c.loop-number.spot in
    let kid = c.child_at-child.result in
    let to = c.past_shift-spot-in-loop-number in
    record {
      way = goes_on (seen what_view (find c.args.nodes.now)) c.args.root.key c.args.root.frame.0 c.args.root.clock place
          from.key kid.key to.result.key from.frame.0 kid.frame.0 to.result.frame.0 from.clock kid.clock to.result.clock i (get_or place i 0)
          (drop_more place i 0 c.loop-number-test.true) c.loop-number.invariant.way c.child_at-child.ensures.child to.ensures.past (ap (λ (z : FrameId). z.0) to.ensures.frame);
      ticks = omega (arith, c.loop-number.invariant.ticks, c.child_at-child.ensures.ticks, to.ensures.ticks);
    }

pub returns-clause-found : goal.returns-clause-found
returns-clause-found g c = arrived (seen what_view (find c.args.nodes.now)) c.args.root.key c.args.root.frame.0 c.args.root.clock c.args.place.now
    c.loop-number.spot.key c.loop-number.spot.frame.0 c.loop-number.spot.clock c.loop-number.number-index (omega (arith, c.loop-number-test.false)) c.loop-number.invariant.way

pub returns-clause-ticks : goal.returns-clause-ticks
returns-clause-ticks g c = omega (arith, c.loop-number.invariant.ticks, c.loop-number.auto.number-index-end, c.past_shift-spot.ensures.ticks)
