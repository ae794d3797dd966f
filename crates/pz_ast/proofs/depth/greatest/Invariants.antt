use Rattle.std.proofs.Common.{◌≡◌, max, drop}
use Rattle.pz_syntax.specs.ModelNesting.{greatest}
use Rattle.pz_ast.proofs.depth.greatest.Given as goal

abbrev pub invariant-loop-part : goal.invariant-loop-part
invariant-loop-part g l = max l.deepest (greatest g.T.Nest.nesting_of (drop l.part-index l.parts)) ≡ greatest g.T.Nest.nesting_of l.parts
