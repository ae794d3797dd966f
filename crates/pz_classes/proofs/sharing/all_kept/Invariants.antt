use Rattle.std.proofs.Common.{◌≡◌, ◌++◌, map, Some}
use Rattle.std.specs.Vec.Iter.{into_iter_items}
use Rattle.pz_classes.proofs.sharing.all_kept.Given as goal

abbrev pub invariant-loop-front : goal.invariant-loop-front
invariant-loop-front l = map Some l.fronts.items ++ into_iter_items l.front-iterator ≡ l.fn.table.items
