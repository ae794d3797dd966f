use Rattle.std.proofs.Common.{◌-◌, length}
use Rattle.pz_term_matching.proofs.Walking.{IsWalking}
use Rattle.pz_term_matching.proofs.matching.match_sender.Given as goal

abbrev pub invariant-loop-place : goal.invariant-loop-place
invariant-loop-place l = IsWalking l.sender l.number l.receivers l.initial.pairs.items l.pairs.items l.place

abbrev pub decreases-loop-place : goal.decreases-loop-place
decreases-loop-place l = length l.receivers - l.place
