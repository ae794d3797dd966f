-- The text of data classes and process classes.
use Rattle.std.specs.Prelude.{Bool, true, false, List, [], ◌∷◌, ◌++◌}
use Rattle.pz_syntax.specs.declared.tokens.Symbol.{Symbol}
use Rattle.pz_syntax.specs.declared.tokens.Symbol.TheVariants as s
use Rattle.pz_syntax.specs.declared.tokens.Keyword.TheVariants as k
use Rattle.pz_syntax.specs.declared.tokens.Mark.{Mark}
use Rattle.pz_syntax.specs.declared.names.Id.{Id}
use Rattle.pz_syntax.specs.declared.classes.VarGroup.{VarGroup}
use Rattle.pz_syntax.specs.declared.classes.Message.{Message}
use Rattle.pz_syntax.specs.Marks.{symbol, keyword, word, head, selector_head, in_parentheses, separated, each_text, optional, section, word_text, names_text}
use Rattle.pz_syntax.specs.ExpressionText as expression
use Rattle.pz_syntax.specs.StatementText as statement
use Rattle.pz_syntax.specs.Classes.{DataMethodTree, DataClassTree, StartTree, ProcessMethodTree, ProcessClassTree}

-- the names of a group from this one on; the last stands before the colon
abbrev pub group_names_from : Id → List Id → List Mark
group_names_from x [] = head x ∷ []
group_names_from x (y ∷ ys) = word x ∷ symbol s.Comma ∷ group_names_from y ys

abbrev pub group_names : List Id → List Mark
group_names [] = []
group_names (x ∷ xs) = group_names_from x xs

abbrev pub group_text : VarGroup → List Mark
group_text g = group_names g.names ++ symbol s.Colon ∷ word g.kind ∷ []

abbrev pub variables_text : List VarGroup → List Mark
variables_text = separated group_text s.Comma

abbrev pub formal_text : List VarGroup → List Mark
formal_text groups = in_parentheses (variables_text groups)

abbrev pub locals_text : List VarGroup → List Mark
locals_text groups = symbol s.Bar ∷ (variables_text groups ++ symbol s.Bar ∷ [])

abbrev pub data_method_text : DataMethodTree → List Mark
data_method_text m = selector_head m.name ∷ (optional formal_text m.inputs ++ symbol s.Colon ∷ word m.result ∷ (optional locals_text m.locals ++ expression.texts s.Semicolon m.body))

abbrev pub data_class_text : DataClassTree → List Mark
data_class_text c = keyword k.Data ∷ keyword k.Class ∷ word c.name ∷ (section k.Extends word_text c.parent ++ (section k.Variables variables_text c.variables ++ section k.Methods (each_text data_method_text) c.methods))

abbrev pub direction : Bool → Symbol
direction true = s.Bang
direction false = s.Query

abbrev pub types_text : List Id → List Mark
types_text types = in_parentheses (names_text types)

abbrev pub message_text : Message → List Mark
message_text m = word m.port ∷ symbol (direction m.out) ∷ word m.name ∷ optional types_text m.types

abbrev pub messages_text : List Message → List Mark
messages_text = separated message_text s.Comma

abbrev pub start_text : StartTree → List Mark
start_text c = head c.method ∷ symbol s.LeftParen ∷ (expression.texts s.Comma c.args ++ symbol s.RightParen ∷ symbol s.LeftParen ∷ symbol s.RightParen ∷ [])

abbrev pub process_method_text : ProcessMethodTree → List Mark
process_method_text m = head m.name ∷ (formal_text m.inputs ++ (formal_text m.outputs ++ (optional locals_text m.locals ++ statement.texts m.body)))

abbrev pub process_class_text : ProcessClassTree → List Mark
process_class_text c = keyword k.Process ∷ keyword k.Class ∷ word c.name ∷ (optional formal_text c.parameters ++ (section k.Extends word_text c.parent ++ (section k.Ports names_text c.ports ++ (section k.Messages messages_text c.messages ++ (section k.Variables variables_text c.variables ++ (section k.Init start_text c.start ++ section k.Methods (each_text process_method_text) c.methods))))))
