use Rattle.pz_match.proofs.Hits.{Going}
use Rattle.pz_match.proofs.seeking.find_in.Given as goal

abbrev pub invariant-loop-place : goal.invariant-loop-place
invariant-loop-place l = Going l.sort l.send.sender l.send.group l.rows l.receives l.offers.process l.number l.place l.from l.rest
