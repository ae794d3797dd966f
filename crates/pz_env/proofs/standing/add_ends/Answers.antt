use Rattle.std.proofs.Common.{arith}
use Rattle.pz_env_tree.specs.pz_bind_rules.Connections.{is_inner}
use Rattle.pz_env.proofs.Sets.{any_step, any_done}
use Rattle.pz_env.proofs.standing.add_ends.Goals as goal

pub loop-end-preserved : goal.loop-end-preserved
loop-end-preserved c = λ e.
    any_step (is_inner e.instance e.port) c.args.listed.now c.end-item.result c.loop-end.end-index _ _ _ _ c.loop-end-test.true c.end-item.is (omega arith)
    (c.in_ok-add_end.ensures e) (c.loop-end.invariant e)

pub returns : goal.returns
returns c = λ e. any_done (is_inner e.instance e.port) c.args.listed.now c.loop-end.end-index _ _ (omega arith) (c.loop-end.invariant e)
