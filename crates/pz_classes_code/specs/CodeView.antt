-- The plain data that the code of a body stands for.
use Rattle.std.specs.Prelude.{List, [], ◌∷◌, map, Option, Some, None}
use Rattle.pz_syntax.specs.declared.tokens.Pos.{Pos}
use Rattle.pz_syntax.specs.declared.tokens.Symbol.{Symbol}
use Rattle.pz_syntax.specs.declared.names.Id.{Id}
use Rattle.pz_syntax.specs.Expressions.{Expression, literal, variable, me, clock, creation, group, chain, sends, unary, assign, returned, choice, loop, Expressions, none, more, Part, left_out, written, Links, no_links, link, Sendings, no_sendings, sending}
use Rattle.pz_value.specs.declared.value.ClassId.{ClassId}
use Rattle.pz_classes_code.specs.declared.slot.Slot.{Slot}
use Rattle.pz_classes_code.specs.declared.code.CodeForm.{CodeForm, fold-CodeForm}
use Rattle.pz_classes_code.specs.declared.code.CodeForm.TheOpen.{CodeForm-F, Code-F, CodeLink-F, CodeSending-F}
use Rattle.pz_classes_code.specs.declared.code.Code.{Code, fold-Code}
use Rattle.pz_classes_code.specs.declared.code.CodeLink.{CodeLink, fold-CodeLink}
use Rattle.pz_classes_code.specs.declared.code.CodeSending.{CodeSending, fold-CodeSending}

-- an expression whose variables are slots and whose classes are numbers
abbrev pub Tree : Type 0
Tree = Expression Slot ClassId

abbrev pub list_of : List Tree → Expressions Slot ClassId
list_of [] = none
list_of (t ∷ ts) = more t (list_of ts)

abbrev pub part_of : Option (List Tree) → Part Slot ClassId
part_of None = left_out
part_of (Some ts) = written (list_of ts)

-- an operator, its place and its right operand
abbrev pub LinkTree : Type 0
LinkTree = Symbol × Pos × Tree

abbrev pub links_of : List LinkTree → Links Slot ClassId
links_of [] = no_links
links_of (l ∷ ls) = link l.0 l.1 l.2 (links_of ls)

-- a selector and its arguments
abbrev pub SendingTree : Type 0
SendingTree = Id × Part Slot ClassId

abbrev pub sendings_of : List SendingTree → Sendings Slot ClassId
sendings_of [] = no_sendings
sendings_of (s ∷ ss) = sending s.0 s.1 (sendings_of ss)

-- a form stands for an expression once its place is known
abbrev pub form_step : CodeForm-F (Pos → Tree) Tree LinkTree SendingTree → Pos → Tree
form_step (CodeForm-F.Lit x) pos = literal pos x
form_step (CodeForm-F.Var slot) pos = variable pos slot
form_step CodeForm-F.Me pos = me pos
form_step CodeForm-F.Clock pos = clock pos
form_step (CodeForm-F.New class) pos = creation pos class
form_step (CodeForm-F.Group ts) pos = group pos (list_of ts)
form_step (CodeForm-F.Chain t ls) pos = chain pos t (links_of ls)
form_step (CodeForm-F.Sends t ss) pos = sends pos t (sendings_of ss)
form_step (CodeForm-F.Unary op t) pos = unary pos op t
form_step (CodeForm-F.Assign x t) pos = assign pos x t
form_step (CodeForm-F.Return t) pos = returned pos t
form_step (CodeForm-F.If test body other) pos = choice pos test (list_of body) (part_of other)
form_step (CodeForm-F.While test body) pos = loop pos test (list_of body)

abbrev pub code_step : Code-F (Pos → Tree) Tree LinkTree SendingTree → Tree
code_step e = e.form e.pos

abbrev pub link_step : CodeLink-F (Pos → Tree) Tree LinkTree SendingTree → LinkTree
link_step l = (l.op, l.pos, l.operand)

abbrev pub sending_step : CodeSending-F (Pos → Tree) Tree LinkTree SendingTree → SendingTree
sending_step s = (s.selector, part_of s.args)

abbrev pub form_view : CodeForm → Pos → Tree
form_view = fold-CodeForm (Pos → Tree) Tree LinkTree SendingTree form_step code_step link_step sending_step

abbrev pub view : Code → Tree
view = fold-Code (Pos → Tree) Tree LinkTree SendingTree form_step code_step link_step sending_step

abbrev pub link_view : CodeLink → LinkTree
link_view = fold-CodeLink (Pos → Tree) Tree LinkTree SendingTree form_step code_step link_step sending_step

abbrev pub sending_view : CodeSending → SendingTree
sending_view = fold-CodeSending (Pos → Tree) Tree LinkTree SendingTree form_step code_step link_step sending_step

abbrev pub list_view : List Code → Expressions Slot ClassId
list_view es = list_of (map view es)

abbrev pub part_view : Option (List Code) → Part Slot ClassId
part_view None = left_out
part_view (Some es) = written (list_view es)
