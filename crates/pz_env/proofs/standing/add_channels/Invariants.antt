use Rattle.std.proofs.Common.{◌≡◌, ◌||◌, drop}
use Rattle.std.specs.List.{list_any}
use Rattle.pz_env.specs.devices.Standing.{is_in_channel}
use Rattle.pz_env.specs.devices.Ends.{Named, ends_in, has_end}
use Rattle.pz_env.proofs.standing.add_channels.Given as goal

abbrev pub invariant-loop-channel : goal.invariant-loop-channel
invariant-loop-channel l = (e : Named)
    → (has_end (ends_in l.ends) e || list_any (is_in_channel e) (drop l.channel-index l.channels)) ≡ (has_end (ends_in l.fn.ends) e || list_any (is_in_channel e) l.channels)
