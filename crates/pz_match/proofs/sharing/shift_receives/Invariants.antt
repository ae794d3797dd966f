use Rattle.std.proofs.Common.{drop}
use Rattle.pz_match.specs.devices.Tallies.{receives_part}
use Rattle.pz_match.specs.devices.Sharing.{side, Shifts}
use Rattle.pz_match.proofs.sharing.shift_receives.Given as goal

abbrev pub invariant-loop-receive : goal.invariant-loop-receive
invariant-loop-receive l =
    record {
      shifts : Shifts l.block l.initial.shares l.shares (side l.way (receives_part l.receives) (receives_part (drop l.receive-index l.receives)))
          (side l.way (receives_part (drop l.receive-index l.receives)) (receives_part l.receives));
    }
