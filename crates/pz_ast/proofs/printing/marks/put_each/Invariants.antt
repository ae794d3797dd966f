use Rattle.std.proofs.Common.{◌≡◌, ◌++◌, drop}
use Rattle.pz_syntax.specs.Marks.{each_text}
use Rattle.pz_ast.proofs.printing.marks.put_each.Given as goal

abbrev pub invariant-loop-part : goal.invariant-loop-part
invariant-loop-part g l = l.out ++ each_text g.T.Print.text_of (drop l.part-index l.parts) ≡ l.fn.out ++ each_text g.T.Print.text_of l.parts
