-- What becomes of a delay that has not begun.
use Rattle.std.proofs.Common.{◌≡◌, ℕ, Option, Result, Ok, Err, refl, sym, ap, ◌∙◌, rules}
use Rattle.std.specs.Result.{result_ok}
use Rattle.pz_classes_code.specs.pz_syntax.declared.tokens.Pos.{Pos}
use Rattle.pz_classes_code.specs.pz_syntax.Statements.{delay}
use Rattle.pz_classes_code.specs.declared.code.Code.{Code}
use Rattle.pz_classes_code.specs.declared.step.Step.{Step}
use Rattle.pz_classes_code.specs.declared.step.StepForm.{StepForm}
use Rattle.pz_classes_code.specs.declared.step.StepForm.TheVariants as form
use Rattle.pz_classes_code.specs.declared.step.StepForm.TheFolds.{the_lemmas}
use Rattle.pz_classes_code.specs.CodeView as code
use Rattle.pz_classes_code.specs.StepView as step
use Rattle.pz_rules.specs.pz_offer.declared.trouble.Trouble.{Trouble}
use Rattle.pz_rules.specs.Terms as terms
use Rattle.pz_rules.specs.Settings.{Context}
use Rattle.pz_rules.specs.devices.Found.{lasting}
use Rattle.pz_rules.specs.devices.Passing.{begun, statement_passed}
use Rattle.pz_term_time.specs.devices.Begun.{begun_with}

shows_step : (pos : Pos) (x : StepForm) → step.view (record { pos = pos; form = x }) ≡ step.form_view x pos
shows_step pos x = search (rules, the_lemmas)

shows_Delay : (pos : Pos) (e : Code) → step.form_view (form.Delay e) pos ≡ delay pos (code.view e)
shows_Delay pos e = search (rules, the_lemmas)

is_delay : (s : Step) (e : Code) → s.form ≡ form.Delay e → step.view s ≡ delay s.pos (code.view e)
is_delay s e is = shows_step s.pos s.form ∙ ap (λ (x : StepForm). step.form_view x s.pos) is ∙ shows_Delay s.pos e

begins : (d : ℕ) (at : Pos) (e : terms.Code) (r : Result ℕ Trouble) → begun_with d at (delay at e) (result_ok r) ≡ begun d at e r
begins d at e (Ok left) = refl
begins d at e (Err trouble) = refl

pub delay_begins : (a : Context) (d f : ℕ) (s : Step) (e : Code) (r : Result ℕ Trouble) (left : Option ℕ) → s.form ≡ form.Delay e → r ≡ lasting a f s.pos (code.view e) → left ≡ result_ok r
    → begun_with d s.pos (step.view s) left ≡ statement_passed a d f (step.view s)
delay_begins a d f s e r left is lasts known =
    ap (λ (x : terms.Step). begun_with d s.pos x left) (is_delay s e is)
    ∙ ap (λ (o : Option ℕ). begun_with d s.pos (delay s.pos (code.view e)) o) known
    ∙ begins d s.pos (code.view e) r
    ∙ ap (λ (x : Result ℕ Trouble). begun d s.pos (code.view e) x) lasts
    ∙ sym (ap (λ (x : terms.Step). statement_passed a d f x) (is_delay s e is))
