use Rattle.std.proofs.Common.{arith}
use Rattle.pz_syntax.specs.ModelNesting.{data_method_nesting}
use Rattle.pz_syntax.specs.ClassView.{data_method_view}
use Rattle.pz_ast.proofs.Nestings.{methods_map}
use Rattle.pz_ast.proofs.depth.DeclNest.nesting.Goals as goal

pub methods_nesting-requires : goal.methods_nesting-requires
methods_nesting-requires c = grind (arith, methods_map data_method_nesting data_method_view c.in-Data.class.methods)

pub returns-in-Data : goal.returns-in-Data
returns-in-Data c = grind (arith, methods_map data_method_nesting data_method_view c.in-Data.class.methods)
