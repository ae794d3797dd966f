use Rattle.std.proofs.Common.{◌≡◌, map, take}
use Rattle.pz_bind_rules.specs.pz_syntax.declared.clusters.Channel.{Channel}
use Rattle.pz_classes.specs.CheckedView.{checked_model}
use Rattle.pz_bind_rules.specs.devices.Layouts.{outer_from}
use Rattle.pz_bind.proofs.plans.outers_of.Given as goal

abbrev pub invariant-loop-channel : goal.invariant-loop-channel
invariant-loop-channel l = l.outers ≡ map (λ (h : Channel). outer_from (checked_model l.checked) l.class h.ends) (take l.channel-index l.channels)
