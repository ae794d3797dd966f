use Rattle.std.proofs.Common.{◌≡◌, ◌++◌, take}
use Rattle.pz_check_components.proofs.walk.push_all.Given as goal

abbrev pub invariant-loop-target : goal.invariant-loop-target
invariant-loop-target l = l.pending.items ≡ l.initial.pending.items ++ take l.target-index l.targets
