use Rattle.std.proofs.Common.{arith}
use Rattle.pz_syntax.specs.ModelNesting.{process_method_nesting}
use Rattle.pz_syntax.specs.ClassView.{process_method_view}
use Rattle.pz_ast.proofs.Nestings.{methods_map}
use Rattle.pz_ast.proofs.depth.process_nesting.Goals as goal

pub methods_nesting-requires : goal.methods_nesting-requires
methods_nesting-requires c = rw (← methods_map process_method_nesting process_method_view c.args.class.now.methods) (omega arith)

pub returns : goal.returns
returns c = rw (methods_map process_method_nesting process_method_view c.args.class.now.methods, ← c.start_nesting.ensures, ← c.methods_nesting.ensures) c.max.ensures
