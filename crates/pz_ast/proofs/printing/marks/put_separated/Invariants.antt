use Rattle.std.proofs.Common.{◌≡◌, ◌++◌, drop}
use Rattle.pz_syntax.specs.Marks.{separated}
use Rattle.pz_ast.proofs.Rests.{rest_separated}
use Rattle.pz_ast.proofs.printing.marks.put_separated.Given as goal

abbrev pub invariant-loop-i : goal.invariant-loop-i
invariant-loop-i g l = l.out ++ rest_separated l.i g.T.Print.text_of l.separator (drop l.i l.parts) ≡ l.fn.out ++ separated g.T.Print.text_of l.separator l.parts
