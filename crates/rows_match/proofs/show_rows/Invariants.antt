use Rattle.std.proofs.Common.{◌≡◌, length}
use Rattle.std.specs.Prelude.{false}
use Rattle.rows_match.proofs.show_rows.Given as goal

abbrev pub invariant-loop-line : goal.invariant-loop-line
invariant-loop-line g l = (length l.table.senders ≡ l.processes) × (l.table.lost ≡ false)
