use Rattle.std.proofs.Common.{◌≡◌, ◌++◌, drop}
use Rattle.pz_syntax.specs.ClassText.{group_names}
use Rattle.pz_ast.proofs.printing.classes.put_group_names.Given as goal

abbrev pub invariant-loop-i : goal.invariant-loop-i
invariant-loop-i l = l.out ++ group_names (drop l.i l.names) ≡ l.fn.out ++ group_names l.names
