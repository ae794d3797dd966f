use Rattle.std.proofs.Common.{None, get_or, refl}
use Rattle.pz_nodes.specs.Arena.{find}
use Rattle.pz_tree_regrowing.proofs.Writes.{keeps_on, counts_on}
use Rattle.pz_tree_regrowing.proofs.nodes.kept_of_all.Goals as goal

pub loop-key-preserved : goal.loop-key-preserved
loop-key-preserved g c =
    let m = find c.args.nodes.now in
    let keys = c.args.keys.now in
    let i = c.loop-key.key-index in
    record {
      kept = keeps_on m keys i c.loop-key.all c.kept_of-kept.result c.in_ok-all.all (get_or keys i None) c.loop-key-test.true refl c.kept_of-kept.ensures.kept c.in_ok-all.ensures c.loop-key.invariant.kept;
      ticks = counts_on m keys i c.loop-key.steps c.kept_of-kept.new.steps c.args.steps.now (get_or keys i None) c.loop-key-test.true refl c.kept_of-kept.ensures.ticks c.loop-key.invariant.ticks;
    }
