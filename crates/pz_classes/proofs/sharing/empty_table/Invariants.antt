use Rattle.std.proofs.Common.{◌≡◌, ℕ, length, None}
use Rattle.pz_classes.specs.devices.Fronts.{kept}
use Rattle.pz_classes.proofs.sharing.empty_table.Given as goal

abbrev pub invariant-loop-class : goal.invariant-loop-class
invariant-loop-class l = record {
  counted : length l.table.items ≡ l._class;
  empty : (c : ℕ) → kept l.table.items c ≡ None;
}
