use Rattle.std.proofs.Common.{◌≡◌, length, drop}
use Rattle.pz_match.specs.devices.Tallies.{Follows, Moves, receives_part}
use Rattle.pz_match.proofs.tallying.withdraw_receives.Given as goal

abbrev pub invariant-loop-receive : goal.invariant-loop-receive
invariant-loop-receive l =
    record {
      follows : Follows l.initial.groups l.groups;
      moves : Moves l.initial.groups l.groups (receives_part l.receives) (receives_part (drop l.receive-index l.receives));
      count : length l.groups.groups ≡ length l.initial.groups.groups;
    }
