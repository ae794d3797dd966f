-- The statements of the code, each with its place.
use Rattle.std.proofs.Common.{◌≡◌, refl, sym, ap, ◌∙◌, rules}
use Rattle.pz_classes_code.specs.pz_syntax.declared.tokens.Pos.{Pos}
use Rattle.pz_classes_code.specs.declared.step.Step.{Step}
use Rattle.pz_classes_code.specs.declared.step.StepForm.{StepForm}
use Rattle.pz_classes_code.specs.declared.step.StepForm.TheOpen.{StepForm-F}
use Rattle.pz_classes_code.specs.declared.step.StepForm.TheFolds.{fold_out-StepForm, the_lemmas}
use Rattle.pz_classes_code.specs.StepView.{Tree, view, form_view, form_step, step_step}
use Rattle.pz_part_actions.specs.StatementPlaces.{statement_place}

formed_place : (x : StepForm-F (Pos → Tree) Tree) (pos : Pos) → statement_place (form_step x pos) ≡ pos
formed_place StepForm-F.Skip pos = refl
formed_place (StepForm-F.Delay e) pos = refl
formed_place (StepForm-F.Group ts) pos = refl
formed_place (StepForm-F.Block es) pos = refl
formed_place (StepForm-F.Guard e t) pos = refl
formed_place (StepForm-F.Par bs) pos = refl
formed_place (StepForm-F.Sel bs) pos = refl
formed_place (StepForm-F.If e body other) pos = refl
formed_place (StepForm-F.While e body) pos = refl
formed_place (StepForm-F.Abort ts t) pos = refl
formed_place (StepForm-F.Interrupt ts t) pos = refl
formed_place (StepForm-F.Send port name args after) pos = refl
formed_place (StepForm-F.Receive port name into condition after) pos = refl
formed_place (StepForm-F.Call method args results) pos = refl
formed_place (StepForm-F.Eval e) pos = refl

form_place : (x : StepForm) (pos : Pos) → statement_place (form_view x pos) ≡ pos
form_place x pos = ap (λ (g : Pos → Tree). statement_place (g pos)) (fold_out-StepForm (Pos → Tree) Tree form_step step_step x) ∙ formed_place _ pos

shows_step : (pos : Pos) (x : StepForm) → view (record { pos = pos; form = x }) ≡ form_view x pos
shows_step pos x = search (rules, the_lemmas)

pub step_place : (s : Step) → s.pos ≡ statement_place (view s)
step_place s = sym (form_place s.form s.pos) ∙ ap statement_place (sym (shows_step s.pos s.form))
