use Rattle.std.proofs.Common.{◌-◌, length, drop}
use Rattle.pz_match.specs.devices.Again.{Beside, SameReceive}
use Rattle.pz_match.proofs.planning.receives_behind.Given as goal

abbrev pub invariant-loop-back : goal.invariant-loop-back
invariant-loop-back l = Beside SameReceive (drop (length l.receives - l.back) l.receives) (drop (length l.offers - l.back) l.offers)
