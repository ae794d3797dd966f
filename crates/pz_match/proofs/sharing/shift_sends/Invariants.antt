use Rattle.std.proofs.Common.{drop}
use Rattle.pz_match.specs.devices.Tallies.{sends_part}
use Rattle.pz_match.specs.devices.Sharing.{side, Shifts}
use Rattle.pz_match.proofs.sharing.shift_sends.Given as goal

abbrev pub invariant-loop-send : goal.invariant-loop-send
invariant-loop-send l =
    record {
      shifts : Shifts l.block l.initial.shares l.shares (side l.way (sends_part l.receives l.sends) (sends_part l.receives (drop l.send-index l.sends)))
          (side l.way (sends_part l.receives (drop l.send-index l.sends)) (sends_part l.receives l.sends));
    }
