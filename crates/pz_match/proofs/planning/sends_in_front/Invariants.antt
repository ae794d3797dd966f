use Rattle.std.proofs.Common.{take}
use Rattle.pz_match.specs.devices.Again.{Beside, SameSend}
use Rattle.pz_match.proofs.planning.sends_in_front.Given as goal

abbrev pub invariant-loop-at : goal.invariant-loop-at
invariant-loop-at l = Beside SameSend (take l.at l.sends) (take l.at l.offers)
