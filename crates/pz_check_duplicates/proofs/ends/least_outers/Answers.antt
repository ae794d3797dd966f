use Rattle.std.proofs.Common.{arith}
use Rattle.pz_check_duplicates.specs.devices.EndList.{outers}
use Rattle.pz_check_duplicates.proofs.Steps.{flat_step}
use Rattle.pz_check_duplicates.proofs.ends.least_outers.Goals as goal

pub loop-channel-preserved : goal.loop-channel-preserved
loop-channel-preserved c = flat_step outers c.args.channels.now c.channel-item.result _ _ _ _ _ c.loop-channel-test.true c.channel-item.is (omega arith) c.in_ok-least.ensures c.loop-channel.invariant
