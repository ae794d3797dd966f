use Rattle.std.proofs.Common.{◌≡◌, length, drop}
use Rattle.pz_match.specs.devices.Tallies.{Follows, Moves, sends_part}
use Rattle.pz_match.proofs.tallying.withdraw_sends.Given as goal

abbrev pub invariant-loop-send : goal.invariant-loop-send
invariant-loop-send l =
    record {
      follows : Follows l.initial.groups l.groups;
      moves : Moves l.initial.groups l.groups (sends_part l.receives l.sends) (sends_part l.receives (drop l.send-index l.sends));
      count : length l.groups.groups ≡ length l.initial.groups.groups;
    }
