use Rattle.std.proofs.Common.{◌≡◌, drop}
use Rattle.pz_match.specs.devices.Kept.{rows_at}
use Rattle.pz_match.proofs.seeking.next_row.Given as goal

abbrev pub invariant-loop-place : goal.invariant-loop-place
invariant-loop-place l = rows_at l.process (drop l.from l.rows) ≡ rows_at l.process (drop l.place l.rows)
