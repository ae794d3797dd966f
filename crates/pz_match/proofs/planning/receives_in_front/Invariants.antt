use Rattle.std.proofs.Common.{take}
use Rattle.pz_match.specs.devices.Again.{Beside, SameReceive}
use Rattle.pz_match.proofs.planning.receives_in_front.Given as goal

abbrev pub invariant-loop-at : goal.invariant-loop-at
invariant-loop-at l = Beside SameReceive (take l.at l.receives) (take l.at l.offers)
