use Rattle.rows_match_plain.proofs.Ranked.{Ranked}
use Rattle.rows_match_plain.proofs.offering.receives.Given as goal

abbrev pub invariant-loop-number : goal.invariant-loop-number
invariant-loop-number l = Ranked (λ r. r.place) l.number l.receives.items
