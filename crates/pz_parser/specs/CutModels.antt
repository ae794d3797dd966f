-- What may stand of a model before some place in it.
use Rattle.std.specs.Prelude.{[], ◌∷◌}
use Rattle.pz_syntax.specs.declared.tokens.Symbol.TheVariants as s
use Rattle.pz_syntax.specs.declared.tokens.Keyword.TheVariants as k
use Rattle.pz_syntax.specs.Marks.{symbol, keyword, word, head, selector_head, optional, section, word_text, names_text}
use Rattle.pz_syntax.specs.ExpressionText as expression
use Rattle.pz_syntax.specs.ExpressionNesting as depth
use Rattle.pz_syntax.specs.Classes.{DataMethodTree, DataClassTree, StartTree, ProcessMethodTree, ProcessClassTree, DeclTree, data_class, process_class, cluster_class, system, ModelTree}
use Rattle.pz_syntax.specs.ClassText.{formal_text, locals_text, variables_text, messages_text, start_text, data_method_text, process_method_text}
use Rattle.pz_syntax.specs.ModelText.{cluster_class_text, system_text, decl_text}
use Rattle.pz_syntax.specs.ModelNesting.{optional_nesting, data_method_nesting, start_nesting, process_method_nesting, decl_nesting}
use Rattle.pz_parser.specs.CutParts.{Cuts, of_marks, part_then, marks_then, mark_then, section_cut, each_cut}
use Rattle.pz_parser.specs.CutExpressions as expressions
use Rattle.pz_parser.specs.CutStatements as statements

abbrev pub data_method_cut : DataMethodTree → Cuts
data_method_cut m = mark_then (selector_head m.name) (marks_then (optional formal_text m.inputs) (marks_then (symbol s.Colon ∷ word m.result ∷ []) (marks_then (optional locals_text m.locals) (expressions.cuts s.Semicolon m.body))))

abbrev pub data_class_cut : DataClassTree → Cuts
data_class_cut c = marks_then (keyword k.Data ∷ keyword k.Class ∷ word c.name ∷ []) (marks_then (section k.Extends word_text c.parent) (marks_then (section k.Variables variables_text c.variables) (section_cut k.Methods (each_cut data_method_text data_method_nesting data_method_cut) c.methods)))

-- the brackets of a start do not nest
abbrev pub start_cut : StartTree → Cuts
start_cut c = marks_then (head c.method ∷ symbol s.LeftParen ∷ []) (part_then (expression.texts s.Comma c.args) (depth.nestings c.args) (expressions.cuts s.Comma c.args) (of_marks (symbol s.RightParen ∷ symbol s.LeftParen ∷ symbol s.RightParen ∷ [])))

abbrev pub process_method_cut : ProcessMethodTree → Cuts
process_method_cut m = mark_then (head m.name) (marks_then (formal_text m.inputs) (marks_then (formal_text m.outputs) (marks_then (optional locals_text m.locals) (statements.cuts m.body))))

abbrev pub process_class_cut : ProcessClassTree → Cuts
process_class_cut c = marks_then (keyword k.Process ∷ keyword k.Class ∷ word c.name ∷ []) (marks_then (optional formal_text c.parameters) (marks_then (section k.Extends word_text c.parent) (marks_then (section k.Ports names_text c.ports) (marks_then (section k.Messages messages_text c.messages) (marks_then (section k.Variables variables_text c.variables)
    (part_then (section k.Init start_text c.start) (optional_nesting start_nesting c.start) (section_cut k.Init start_cut c.start) (section_cut k.Methods (each_cut process_method_text process_method_nesting process_method_cut) c.methods)))))))

abbrev pub decl_cut : DeclTree → Cuts
decl_cut (data_class c) = data_class_cut c
decl_cut (process_class c) = process_class_cut c
decl_cut (cluster_class c) = of_marks (cluster_class_text c)
decl_cut (system d) = of_marks (system_text d)

abbrev pub cut : ModelTree → Cuts
cut m = each_cut decl_text decl_nesting decl_cut m.decls
