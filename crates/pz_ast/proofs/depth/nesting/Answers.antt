use Rattle.std.proofs.Common.{arith}
use Rattle.pz_syntax.specs.ClassView.{decl_view, model_view}
use Rattle.pz_syntax.specs.ModelNesting.{decl_nesting}
use Rattle.pz_ast.proofs.Nestings.{greatest_map}
use Rattle.pz_ast.proofs.ModelBounds.{model_bound}
use Rattle.pz_ast.proofs.depth.nesting.Goals as goal

pub greatest-requires : goal.greatest-requires
greatest-requires c = rw (c.as_slice.ensures, ← greatest_map decl_nesting decl_view c.args.model.now.decls) (omega (arith, model_bound (model_view c.args.model.now)))

pub returns : goal.returns
returns c = rw (greatest_map decl_nesting decl_view c.args.model.now.decls, ← c.as_slice.ensures) c.greatest.ensures
