use Rattle.std.proofs.Common.{drop}
use Rattle.pz_rules.specs.View.{term_view}
use Rattle.pz_part_queries.proofs.Inside.{IsOnTheWay}
use Rattle.pz_part_queries.proofs.parts.part_at.Given as goal

abbrev pub invariant-loop-number : goal.invariant-loop-number
invariant-loop-number l = IsOnTheWay l.fn.frame.0 (term_view l.fn.term) l.place l.inner.0 (term_view l.part) (drop l.number-index l.place)
