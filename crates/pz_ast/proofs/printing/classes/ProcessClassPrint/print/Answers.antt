use Rattle.std.proofs.Common.{append_assoc, map}
use Rattle.pz_syntax.specs.declared.tokens.Keyword.TheVariants as k
use Rattle.pz_syntax.specs.Marks.{each_text}
use Rattle.pz_syntax.specs.ClassText.{start_text, process_method_text}
use Rattle.pz_syntax.specs.ClassView.{start_view, process_method_view}
use Rattle.pz_ast.proofs.Texts.{section_map}
use Rattle.pz_ast.proofs.printing.classes.ProcessClassPrint.print.Goals as goal

pub returns : goal.returns
returns c =
    let steps = rw (c.in_ok-put_section-2.ensures, c.in_ok-put_section_of_list-3.ensures, c.in_ok-put_section_of_list-2.ensures, c.in_ok-put_section_of_list.ensures, c.in_ok-put_section.ensures, c.in_ok-put_written_formal.ensures, c.in_ok-put_word.ensures, c.in_ok-put_keyword-2.ensures, c.in_ok-put_keyword.ensures) at c.put_section-3.ensures in
    rw (section_map k.Init start_text start_view c.args.self.now.start, section_map k.Methods (each_text process_method_text) (map process_method_view) c.args.self.now.methods) (simp append_assoc at steps)
