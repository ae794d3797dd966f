use Rattle.std.proofs.Common.{◌≡◌, length}
use Rattle.std.specs.Prelude.{false}
use Rattle.rows_match.proofs.benches.change_one.Given as goal

abbrev pub invariant-loop : goal.invariant-loop
invariant-loop g l = (length l.table.senders ≡ length l.initial.table.senders) × (l.table.lost ≡ false)
