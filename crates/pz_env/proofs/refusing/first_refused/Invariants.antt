use Rattle.std.proofs.Common.{◌≡◌, suc, drop}
use Rattle.pz_env.specs.devices.Ends.{ends_in}
use Rattle.pz_env.specs.devices.Refusing.{first_refused}
use Rattle.pz_env.proofs.refusing.first_refused.Given as goal

abbrev pub invariant-loop-index : goal.invariant-loop-index
invariant-loop-index l = first_refused (ends_in l.ports) (ends_in l.taken) (suc l.index) (drop l.index l.entries) ≡ first_refused (ends_in l.ports) (ends_in l.taken) 1 l.entries
