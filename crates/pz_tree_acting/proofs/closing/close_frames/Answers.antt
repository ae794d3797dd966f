use Rattle.std.proofs.lemmas.Result.{on_ok_weaker}
use Rattle.pz_tree_regrowing.specs.pz_tree_nodes.Dropping.{numbers}
use Rattle.pz_tree_acting.proofs.Frames.{close_one, close_two}
use Rattle.pz_tree_acting.proofs.closing.close_frames.Goals as goal

pub returns-in-One-clause-closed : goal.returns-in-One-clause-closed
returns-in-One-clause-closed c = on_ok_weaker c.close_lost.result
    (λ rule. close_one c.args.edition c.in-One.is c.args.listed.items (numbers c.args.lost.now) c.args.state.now c.close_lost.new.state rule) c.close_lost.ensures.closed

pub returns-in-Two-clause-closed : goal.returns-in-Two-clause-closed
returns-in-Two-clause-closed c = on_ok_weaker c.close_both.result
    (λ rule. close_two c.args.edition c.in-Two.is c.args.listed.items (numbers c.args.lost.now) c.args.state.now c.close_both.new.state rule) c.close_both.ensures.closed
