use Rattle.std.proofs.Common.{◌≡◌, ℕ, [], length}
use Rattle.pz_check_instances.proofs.ClassLists.{row_of}
use Rattle.pz_check_instances.proofs.by_class.ByClass.new.Given as goal

abbrev pub invariant-loop-row : goal.invariant-loop-row
invariant-loop-row g l = record {
  counted : length l.rows.items ≡ l._row;
  empty : (k : ℕ) → row_of l.rows.items k ≡ [];
}
