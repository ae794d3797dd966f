use Rattle.std.proofs.Common.{◌≡◌, ◌+◌, length}
use Rattle.std.specs.Prelude.{false}
use Rattle.rows_match.proofs.benches.fill_ring.Given as goal

abbrev pub invariant-loop-process : goal.invariant-loop-process
invariant-loop-process g l = (length l.table.senders ≡ l.size + 1) × (l.table.lost ≡ false)
