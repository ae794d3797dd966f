use Rattle.std.proofs.Common.{refl}
use Rattle.pz_syntax.specs.ModelText.{decl_text}
use Rattle.pz_syntax.specs.ClassView.{decl_view}
use Rattle.pz_ast.proofs.Texts.{each_text_map}
use Rattle.pz_ast.proofs.printing.tokens_of.Goals as goal

pub returns : goal.returns
returns c = rw (each_text_map decl_text decl_view c.args.model.now.decls, c.in_ok-put_each.ensures, c.new-out.ensures, c.as_slice.ensures) refl
