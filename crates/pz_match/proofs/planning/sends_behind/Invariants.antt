use Rattle.std.proofs.Common.{◌-◌, length, drop}
use Rattle.pz_match.specs.devices.Again.{Beside, SameSend}
use Rattle.pz_match.proofs.planning.sends_behind.Given as goal

abbrev pub invariant-loop-back : goal.invariant-loop-back
invariant-loop-back l = Beside SameSend (drop (length l.sends - l.back) l.sends) (drop (length l.offers - l.back) l.offers)
