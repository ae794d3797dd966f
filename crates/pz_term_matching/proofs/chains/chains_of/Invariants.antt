use Rattle.pz_term_matching.specs.devices.Chains.{AreChainsFrom}
use Rattle.pz_term_matching.proofs.chains.chains_of.Given as goal

abbrev pub invariant-loop-place : goal.invariant-loop-place
invariant-loop-place l = AreChainsFrom l.place l.receivers l.chains
