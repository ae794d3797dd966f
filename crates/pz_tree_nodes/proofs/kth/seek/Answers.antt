use Rattle.std.proofs.Common.{sym, ◌∙◌, arith}
use Rattle.pz_nodes.specs.Arena.{find}
use Rattle.pz_tree_nodes.specs.View.{head_view}
use Rattle.pz_tree_nodes.proofs.Onward.{counts_next, counts_skip}
use Rattle.pz_tree_nodes.proofs.kth.seek.Goals as goal
use Rattle.pz_tree_nodes.proofs.kth.seek.Goals.{then-reaches+else-left-count, else-reaches}

pub loop-number-preserved : goal.loop-number-preserved
loop-number-preserved g c =
    let m = find c.args.nodes.now in
    let h = head_view c.args.head.now in
    elim c.if-reaches.branch [
      | then-reaches+else-left-count w ↦
          (let more = counts_next m h c.args.kids.now c.loop-number.number c.loop-number-test.true (sym c.reaches.ensures ∙ w.if-reaches.true) in
          omega (arith, more, w.count_at-count.ensures, w.left-is, w.if-left-count.false, c.loop-number.invariant))
      | else-reaches w ↦
          (let more = counts_skip m h c.args.kids.now c.loop-number.number c.loop-number-test.true (sym c.reaches.ensures ∙ w.if-reaches.false) in
          omega (arith, more, w.left-is, c.loop-number.invariant))
    ]
