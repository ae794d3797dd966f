use Rattle.std.proofs.Common.{◌≡◌, map, take}
use Rattle.std.specs.List.{flat_map}
use Rattle.pz_classes.specs.pz_syntax.declared.clusters.Channel.{Channel}
use Rattle.pz_check_duplicates.specs.devices.Tips.{tip, tip_of}
use Rattle.pz_check_duplicates.proofs.ends.least_end.Given as goal

abbrev pub invariant-loop-channel : goal.invariant-loop-channel
invariant-loop-channel l = map tip_of l.things ≡ map tip (flat_map (λ (h : Channel). h.ends) (take l.channel-index l.channels))
