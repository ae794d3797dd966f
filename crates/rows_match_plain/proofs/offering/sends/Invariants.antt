use Rattle.rows_match_plain.proofs.Ranked.{Ranked}
use Rattle.rows_match_plain.proofs.offering.sends.Given as goal

abbrev pub invariant-loop-number : goal.invariant-loop-number
invariant-loop-number l = Ranked (λ s. s.place) l.number l.sends.items
