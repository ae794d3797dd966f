use Rattle.pz_syntax.specs.ClassText.{process_method_text}
use Rattle.pz_syntax.specs.ClassView.{process_method_view}
use Rattle.pz_ast.proofs.Texts.{each_text_map}
use Rattle.pz_ast.proofs.printing.classes.ItemsProcessMethodPrint.print.Goals as goal

pub returns : goal.returns
returns c = rw (each_text_map process_method_text process_method_view c.args.self.now, ← c.as_slice.ensures) c.put_each.ensures
