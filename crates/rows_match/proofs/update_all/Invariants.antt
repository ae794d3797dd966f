use Rattle.std.proofs.Common.{◌≡◌, length}
use Rattle.std.specs.Prelude.{false}
use Rattle.rows_match.proofs.update_all.Given as goal

abbrev pub invariant-loop-process : goal.invariant-loop-process
invariant-loop-process g l = (length l.table.senders ≡ length l.initial.table.senders) × (l.table.lost ≡ false)
