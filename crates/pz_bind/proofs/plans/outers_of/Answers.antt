use Rattle.std.proofs.Common.{◌∙◌, ap, map, List, arith}
use Rattle.std.proofs.lemmas.List.{take_all}
use Rattle.pz_bind_rules.specs.pz_syntax.declared.clusters.Channel.{Channel}
use Rattle.pz_bind_rules.specs.pz_syntax.declared.clusters.ChannelEnd.{ChannelEnd}
use Rattle.pz_classes.specs.CheckedView.{checked_model}
use Rattle.pz_bind_rules.specs.devices.Layouts.{outer_from}
use Rattle.pz_bind.proofs.PlanSteps.{map_step}
use Rattle.pz_bind.proofs.plans.outers_of.Goals as goal

pub loop-channel-preserved : goal.loop-channel-preserved
loop-channel-preserved c =
    let m = checked_model c.args.checked.now in
    map_step (λ (h : Channel). outer_from m c.args.class h.ends) c.args.channels.now c.channel-item.result c.loop-channel.channel-index _ _ _ c.outer_of.result c.loop-channel-test.true c.channel-item.is (omega arith) c.in_ok-push.ensures.ok
    (c.outer_of.ensures ∙ ap (λ (es : List ChannelEnd). outer_from m c.args.class es) c.as_slice.ensures) c.loop-channel.invariant

pub returns : goal.returns
returns c =
    let m = checked_model c.args.checked.now in
    c.loop-channel.invariant ∙ ap (map (λ (h : Channel). outer_from m c.args.class h.ends)) (take_all c.loop-channel.channel-index c.args.channels.now (omega arith))
