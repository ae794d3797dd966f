use Rattle.std.proofs.Common.{◌≡◌, length}
use Rattle.std.specs.Prelude.{false}
use Rattle.rows_match.proofs.random.update_often.Given as goal

abbrev pub invariant-loop-number : goal.invariant-loop-number
invariant-loop-number g l = (length l.table.senders ≡ length l.initial.table.senders) × (l.table.lost ≡ false)
