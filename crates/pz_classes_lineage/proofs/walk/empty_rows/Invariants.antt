use Rattle.std.proofs.Common.{◌≡◌, ℕ, [], length}
use Rattle.pz_classes_lineage.specs.devices.Rows.{row}
use Rattle.pz_classes_lineage.proofs.walk.empty_rows.Given as goal

abbrev pub invariant-loop-row : goal.invariant-loop-row
invariant-loop-row l = record {
  counted : length l.rows.items ≡ l._row;
  empty : (p : ℕ) → row l.rows.items p ≡ [];
}
