use Rattle.std.proofs.Common.{◌≡◌, take}
use Rattle.pz_check_calls.specs.Calls.{edges}
use Rattle.pz_check_calls.proofs.rounds.edges_of.Given as goal

abbrev pub invariant-loop-method : goal.invariant-loop-method
invariant-loop-method l = l.edges ≡ edges (take l.method-index l.methods)
