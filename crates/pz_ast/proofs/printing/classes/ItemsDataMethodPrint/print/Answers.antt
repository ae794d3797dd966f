use Rattle.pz_syntax.specs.ClassText.{data_method_text}
use Rattle.pz_syntax.specs.ClassView.{data_method_view}
use Rattle.pz_ast.proofs.Texts.{each_text_map}
use Rattle.pz_ast.proofs.printing.classes.ItemsDataMethodPrint.print.Goals as goal

pub returns : goal.returns
returns c = rw (each_text_map data_method_text data_method_view c.args.self.now, ← c.as_slice.ensures) c.put_each.ensures
