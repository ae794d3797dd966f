-- The plain data that an expression of the code stands for.
use Rattle.std.specs.Prelude.{List, [], ◌∷◌, map, Option, Some, None}
use Rattle.pz_syntax.specs.declared.tokens.Pos.{Pos}
use Rattle.pz_syntax.specs.declared.tokens.Symbol.{Symbol}
use Rattle.pz_syntax.specs.declared.names.Id.{Id}
use Rattle.pz_syntax.specs.declared.exprs.ExprForm.{ExprForm, fold-ExprForm}
use Rattle.pz_syntax.specs.declared.exprs.ExprForm.TheOpen.{ExprForm-F, Expr-F, Link-F, Sending-F}
use Rattle.pz_syntax.specs.declared.exprs.Expr.{Expr, fold-Expr}
use Rattle.pz_syntax.specs.declared.exprs.Link.{Link, fold-Link}
use Rattle.pz_syntax.specs.declared.exprs.Sending.{Sending, fold-Sending}
use Rattle.pz_syntax.specs.Expressions.{Expression, literal, variable, me, clock, creation, group, chain, sends, unary, assign, returned, choice, loop, Expressions, none, more, Part, left_out, written, Links, no_links, link, Sendings, no_sendings, sending}

-- an expression whose variables and classes are names at their places
abbrev pub Tree : Type 0
Tree = Expression Id Id

abbrev pub list_of : List Tree → Expressions Id Id
list_of [] = none
list_of (t ∷ ts) = more t (list_of ts)

abbrev pub part_of : Option (List Tree) → Part Id Id
part_of None = left_out
part_of (Some ts) = written (list_of ts)

-- an operator, its place and its right operand
abbrev pub LinkTree : Type 0
LinkTree = Symbol × Pos × Tree

abbrev pub links_of : List LinkTree → Links Id Id
links_of [] = no_links
links_of (l ∷ ls) = link l.0 l.1 l.2 (links_of ls)

-- a selector and its arguments
abbrev pub SendingTree : Type 0
SendingTree = Id × Part Id Id

abbrev pub sendings_of : List SendingTree → Sendings Id Id
sendings_of [] = no_sendings
sendings_of (s ∷ ss) = sending s.0 s.1 (sendings_of ss)

-- a form stands for an expression once its place is known
abbrev pub form_step : ExprForm-F (Pos → Tree) Tree LinkTree SendingTree → Pos → Tree
form_step (ExprForm-F.Lit x) pos = literal pos x
form_step (ExprForm-F.Var name) pos = variable pos (record { name = name; pos = pos })
form_step ExprForm-F.Me pos = me pos
form_step ExprForm-F.Clock pos = clock pos
form_step (ExprForm-F.New class) pos = creation pos class
form_step (ExprForm-F.Group ts) pos = group pos (list_of ts)
form_step (ExprForm-F.Chain t ls) pos = chain pos t (links_of ls)
form_step (ExprForm-F.Sends t ss) pos = sends pos t (sendings_of ss)
form_step (ExprForm-F.Unary op t) pos = unary pos op t
form_step (ExprForm-F.Assign x t) pos = assign pos x t
form_step (ExprForm-F.Return t) pos = returned pos t
form_step (ExprForm-F.If test body other) pos = choice pos test (list_of body) (part_of other)
form_step (ExprForm-F.While test body) pos = loop pos test (list_of body)

abbrev pub expr_step : Expr-F (Pos → Tree) Tree LinkTree SendingTree → Tree
expr_step e = e.form e.pos

abbrev pub link_step : Link-F (Pos → Tree) Tree LinkTree SendingTree → LinkTree
link_step l = (l.op, l.pos, l.operand)

abbrev pub sending_step : Sending-F (Pos → Tree) Tree LinkTree SendingTree → SendingTree
sending_step s = (s.selector, part_of s.args)

abbrev pub form_view : ExprForm → Pos → Tree
form_view = fold-ExprForm (Pos → Tree) Tree LinkTree SendingTree form_step expr_step link_step sending_step

abbrev pub view : Expr → Tree
view = fold-Expr (Pos → Tree) Tree LinkTree SendingTree form_step expr_step link_step sending_step

abbrev pub link_view : Link → LinkTree
link_view = fold-Link (Pos → Tree) Tree LinkTree SendingTree form_step expr_step link_step sending_step

abbrev pub sending_view : Sending → SendingTree
sending_view = fold-Sending (Pos → Tree) Tree LinkTree SendingTree form_step expr_step link_step sending_step

abbrev pub list_view : List Expr → Expressions Id Id
list_view es = list_of (map view es)

abbrev pub part_view : Option (List Expr) → Part Id Id
part_view None = left_out
part_view (Some es) = written (list_view es)
