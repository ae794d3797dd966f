use Rattle.std.proofs.Common.{◌≡◌, ◌≤◌, length, map, take, drop}
use Rattle.std.specs.Vec.Iter.{into_iter_items, into_iter_len}
use Rattle.pz_classes_code.specs.pz_syntax.ClassView.{model_view}
use Rattle.pz_classes_rules.specs.Methods.{methods_before}
use Rattle.pz_classes.specs.devices.Rows.{rows, row_view}
use Rattle.pz_classes.proofs.tabling.entries_of.Given as goal

abbrev pub invariant-loop-members : goal.invariant-loop-members
invariant-loop-members l = record {
  left : drop l.number l.fn.table.items ≡ into_iter_items l.members-iterator;
  counted : into_iter_len l.members-iterator ≡ length (into_iter_items l.members-iterator);
  within : l.number ≤ length l.fn.table.items;
  numbered : l.first ≡ methods_before (model_view l.model) l.number;
  listed : map row_view l.entries ≡ take l.number (rows (model_view l.model));
}
