-- What constants, variables, `self`, operators and assignments stand for.
use Rattle.std.proofs.Common.{◌≡◌, List, rules}
use Rattle.pz_classes_code.specs.pz_syntax.declared.tokens.Pos.{Pos}
use Rattle.pz_classes_code.specs.pz_syntax.declared.exprs.Literal.{Literal}
use Rattle.pz_classes_code.specs.pz_syntax.Expressions.{literal, variable, me, chain, assign}
use Rattle.pz_classes_code.specs.declared.slot.Slot.{Slot}
use Rattle.pz_classes_code.specs.declared.code.Code.{Code}
use Rattle.pz_classes_code.specs.declared.code.CodeForm.TheVariants as form
use Rattle.pz_classes_code.specs.declared.code.CodeForm.TheFolds.{the_lemmas}
use Rattle.pz_classes_code.specs.declared.code.CodeLink.{CodeLink}
use Rattle.pz_classes_code.specs.CodeView.{view, form_view, link_view}
use Rattle.pz_eval_operations.specs.devices.Views.{links_view}

pub code_is : (c : Code) → view c ≡ form_view c.form c.pos
code_is c = search (rules, the_lemmas)

pub literal_view : (x : Literal) (at : Pos) → form_view (form.Lit x) at ≡ literal at x
literal_view x at = search (rules, the_lemmas)

pub variable_view : (x : Slot) (at : Pos) → form_view (form.Var x) at ≡ variable at x
variable_view x at = search (rules, the_lemmas)

pub me_view : (at : Pos) → form_view form.Me at ≡ me at
me_view at = search (rules, the_lemmas)

pub chain_view : (first : Code) (links : List CodeLink) (at : Pos) → form_view (form.Chain first links) at ≡ chain at (view first) (links_view links)
chain_view first links at = search (rules, the_lemmas)

pub assign_view : (x : Slot) (value : Code) (at : Pos) → form_view (form.Assign x value) at ≡ assign at x (view value)
assign_view x value at = search (rules, the_lemmas)

pub link_is : (l : CodeLink) → link_view l ≡ (l.op, l.pos, view l.operand)
link_is l = search (rules, the_lemmas)
