use Rattle.std.proofs.Common.{ap, ◌∙◌, ◌||◌, List, arith}
use Rattle.std.specs.List.{list_any}
use Rattle.pz_syntax.specs.declared.clusters.ChannelEnd.{ChannelEnd}
use Rattle.pz_env_tree.specs.pz_bind_rules.Connections.{is_inner}
use Rattle.pz_env.specs.devices.Ends.{ends_in, has_end}
use Rattle.pz_env.specs.devices.Standing.{is_in_channel}
use Rattle.pz_env.proofs.Sets.{any_step, any_done}
use Rattle.pz_env.proofs.standing.add_channels.Goals as goal

pub loop-channel-preserved : goal.loop-channel-preserved
loop-channel-preserved c = λ e.
    any_step (is_in_channel e) c.args.channels.now c.channel-item.result c.loop-channel.channel-index _ _ _ _ c.loop-channel-test.true c.channel-item.is (omega arith)
    (c.in_ok-add_ends.ensures e ∙ ap (λ (es : List ChannelEnd). has_end (ends_in c.loop-channel.ends) e || list_any (is_inner e.instance e.port) es) c.as_slice.ensures) (c.loop-channel.invariant e)

pub returns : goal.returns
returns c = λ e. any_done (is_in_channel e) c.args.channels.now c.loop-channel.channel-index _ _ (omega arith) (c.loop-channel.invariant e)
