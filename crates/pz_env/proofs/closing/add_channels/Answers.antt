use Rattle.std.proofs.Common.{arith}
use Rattle.pz_env.proofs.Making.{none_joined, line_joined, all_joined}
use Rattle.pz_env.proofs.closing.add_channels.Goals as goal

pub loop-index-init : goal.loop-index-init
loop-index-init c = none_joined c.args.entries.now _ c.args.channels.now c.new-ends.ensures

pub loop-index-preserved : goal.loop-index-preserved
loop-index-preserved c =
    line_joined c.args.entries.now c.index-entries-index.result c.loop-index.index _ c.place_of.result _ _ c.args.channels.now _ _ c.loop-index-test.true c.index-entries-index.is (omega arith) c.place_of.ensures
    c.in_ok-add_channel.ensures.ends c.in_ok-add_channel.ensures.channels c.loop-index.invariant

pub returns : goal.returns
returns c = all_joined c.args.entries.now c.loop-index.index _ _ _ (omega arith) c.loop-index.invariant
