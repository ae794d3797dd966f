-- The calls with which processes start, as statements.
use Rattle.std.proofs.Common.{◌≡◌, List, [], ap, ◌∙◌, rules}
use Rattle.pz_classes_code.specs.pz_syntax.declared.tokens.Pos.{Pos}
use Rattle.pz_classes_code.specs.pz_syntax.declared.names.Id.{Id}
use Rattle.pz_classes_code.specs.pz_syntax.Statements.{call}
use Rattle.pz_classes_code.specs.declared.code.Code.{Code}
use Rattle.pz_classes_code.specs.declared.step.StepForm.{StepForm}
use Rattle.pz_classes_code.specs.declared.step.StepForm.TheVariants as form
use Rattle.pz_classes_code.specs.declared.step.StepForm.TheFolds.{the_lemmas}
use Rattle.pz_classes_code.specs.CodeView.{list_view}
use Rattle.pz_classes_code.specs.StepView as step

view_of : (pos : Pos) (x : StepForm) → step.view (record { pos = pos; form = x }) ≡ step.form_view x pos
view_of pos x = search (rules, the_lemmas)

shown_call : (pos : Pos) (method : Id) (args : List Code) → step.form_view (form.Call method args []) pos ≡ call pos method (list_view args) []
shown_call pos method args = search (rules, the_lemmas)

pub call_is : (pos : Pos) (method : Id) (args : List Code) (x : StepForm) → x ≡ form.Call method args [] → step.view (record { pos = pos; form = x }) ≡ call pos method (list_view args) []
call_is pos method args x is = view_of pos x ∙ ap (λ (y : StepForm). step.form_view y pos) is ∙ shown_call pos method args
