use Rattle.std.proofs.Common.{◌≡◌, ◌++◌, drop}
use Rattle.pz_term_matching.proofs.Turning.{turns_from}
use Rattle.pz_term_matching.proofs.turns.turns_of.Given as goal

abbrev pub invariant-loop-place : goal.invariant-loop-place
invariant-loop-place l = l.turns.items ++ turns_from l.place (drop l.place l.senders) ≡ turns_from 0 l.senders
