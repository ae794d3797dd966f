use Rattle.std.proofs.Common.{◌∙◌, sym, subst, arith}
use Rattle.std.proofs.lemmas.Result.{on_ok_weaker}
use Rattle.pz_nodes.specs.Arena.{find}
use Rattle.pz_nodes_shapes.proofs.Drops.{none_or}
use Rattle.pz_tree_nodes.specs.Dropping.{numbers, DropAllRule}
use Rattle.pz_tree_nodes.proofs.Falling.{node_dropped, drops_next, drops_one, all_dropped}
use Rattle.pz_tree_nodes.proofs.dropping.+dropping.Goals as goal
use Rattle.pz_tree_nodes.proofs.dropping.+dropping.Goals.{drop_parts-in-Some+in_ok-drop_part, drop_parts-in_default}

pub drop_parts-loop-key-preserved : goal.drop_parts-loop-key-preserved
drop_parts-loop-key-preserved g t c = record {
  fewer = elim c.match-key.branch [
    | drop_parts-in-Some+in_ok-drop_part w ↦ rw w.nodes-is (omega (arith, c.loop-key.invariant.fewer, w.drop_part.ensures.live))
    | drop_parts-in_default w ↦ rw w.nodes-is c.loop-key.invariant.fewer
  ];
  on = elim c.match-key.branch [
    | drop_parts-in-Some+in_ok-drop_part w ↦ rw (w.nodes-is, w.frames-is, w.steps-is) (drops_one (find c.args.nodes.now) (find c.loop-key.nodes) _ c.args.keys.now c.loop-key.key-index _ (numbers c.args.frames.now.items) (numbers c.loop-key.frames.items) _ c.args.steps.now c.loop-key.steps _
        c.loop-key-test.true w.in-Some.is w.in_ok-drop_part.ensures.dropped c.loop-key.invariant.on)
    | drop_parts-in_default w ↦ rw (w.nodes-is, w.frames-is, w.steps-is) (drops_next (find c.args.nodes.now) (find c.loop-key.nodes) c.args.keys.now c.loop-key.key-index (numbers c.args.frames.now.items) (numbers c.loop-key.frames.items) c.args.steps.now c.loop-key.steps
        c.loop-key-test.true (none_or _ w.in_default.not-Some) c.loop-key.invariant.on)
  ];
}

pub drop_parts-returns-clause-dropped : goal.drop_parts-returns-clause-dropped
drop_parts-returns-clause-dropped g t c = all_dropped (find c.args.nodes.now) (find c.loop-key.nodes) c.args.keys.now c.loop-key.key-index (numbers c.args.frames.now.items) (numbers c.loop-key.frames.items) c.args.steps.now c.loop-key.steps
    (omega arith) c.loop-key.invariant.on

pub drop_part-returns-clause-dropped : goal.drop_part-returns-clause-dropped
drop_part-returns-clause-dropped g t c =
    let one = find c.remove.new.self in
    let two = find c.drop_parts.new.nodes in
    let noted = numbers c.hand_out.new.frames.items in
    let all = numbers c.drop_parts.new.frames.items in
    on_ok_weaker c.drop_parts.result (λ d. node_dropped (find c.args.nodes.now) one two c.args.key c.in-Some.node (numbers c.args.frames.now.items) noted all c.args.steps.now c.remove.new.steps c.drop_parts.new.steps
    (sym c.remove.ensures.value ∙ c.in-Some.is) c.remove.ensures.updates.changed c.remove.ensures.updates.others c.remove.ensures.ticks c.in_ok-hand_out.ensures
    (subst (λ keys. DropAllRule one two keys noted all c.remove.new.steps c.drop_parts.new.steps) c.as_slice.ensures d)) c.drop_parts.ensures.dropped
