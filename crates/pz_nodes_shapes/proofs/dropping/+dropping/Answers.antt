use Rattle.std.proofs.Common.{◌∙◌, sym, arith}
use Rattle.pz_nodes.specs.Arena.{find}
use Rattle.pz_nodes_shapes.proofs.Drops.{drop_node, drops_next, drops_one, all_dropped, none_or}
use Rattle.pz_nodes_shapes.proofs.dropping.+dropping.Goals as goal
use Rattle.pz_nodes_shapes.proofs.dropping.+dropping.Goals.{drop_kids-in-Some, drop_kids-in_default}

pub drop_kids-loop-kid-preserved : goal.drop_kids-loop-kid-preserved
drop_kids-loop-kid-preserved g t c = record {
  fewer = elim c.match-kid.branch [
    | drop_kids-in-Some w ↦ rw w.nodes-is (omega (arith, c.loop-kid.invariant.fewer, w.drop_part.ensures.live))
    | drop_kids-in_default w ↦ rw w.nodes-is c.loop-kid.invariant.fewer
  ];
  on = elim c.match-kid.branch [
    | drop_kids-in-Some w ↦ rw (w.nodes-is, w.steps-is) (drops_one (find c.args.nodes.now) (find c.loop-kid.nodes) _ c.args.kids.now c.loop-kid.kid-index _ c.args.steps.now c.loop-kid.steps _ c.loop-kid-test.true w.in-Some.is w.drop_part.ensures.rule c.loop-kid.invariant.on)
    | drop_kids-in_default w ↦ rw (w.nodes-is, w.steps-is) (drops_next (find c.args.nodes.now) (find c.loop-kid.nodes) c.args.kids.now c.loop-kid.kid-index c.args.steps.now c.loop-kid.steps c.loop-kid-test.true (none_or _ w.in_default.not-Some) c.loop-kid.invariant.on)
  ];
}

pub drop_kids-returns-clause-rule : goal.drop_kids-returns-clause-rule
drop_kids-returns-clause-rule g t c = all_dropped (find c.args.nodes.now) (find c.loop-kid.nodes) c.args.kids.now c.loop-kid.kid-index c.args.steps.now c.loop-kid.steps (omega arith) c.loop-kid.invariant.on

pub drop_part-returns-clause-rule : goal.drop_part-returns-clause-rule
drop_part-returns-clause-rule g t c = drop_node (find c.args.nodes.now) (find c.remove.new.self) (find c.drop_kids.new.nodes) c.args.key c.in-Some.node c.args.steps.now c.remove.new.steps c.drop_kids.new.steps
    (sym c.remove.ensures.value ∙ c.in-Some.is) c.remove.ensures.updates.changed c.remove.ensures.updates.others c.remove.ensures.ticks (rw c.as_slice.ensures at c.drop_kids.ensures.rule)
