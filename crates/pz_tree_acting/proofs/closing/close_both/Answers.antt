use Rattle.std.proofs.lemmas.Result.{on_ok_weaker}
use Rattle.pz_tree_regrowing.specs.pz_tree_nodes.Dropping.{numbers}
use Rattle.pz_tree_acting.proofs.Frames.{both_closed}
use Rattle.pz_tree_acting.proofs.closing.close_both.Goals as goal

pub returns-clause-closed : goal.returns-clause-closed
returns-clause-closed c = on_ok_weaker c.close_lost.result
    (λ rule. both_closed c.args.listed.items (numbers c.args.lost.now) c.args.state.now c.close_unlisted.new.state c.close_lost.new.state c.in_ok-close_unlisted.ensures.closed c.in_ok-close_unlisted.ensures.ordered rule)
    c.close_lost.ensures.closed
