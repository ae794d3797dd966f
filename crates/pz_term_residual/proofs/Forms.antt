-- What the code's terms stand for, form by form, in what is read of them.
use Rattle.std.proofs.Common.{◌≡◌, ℕ, List, sym, ap, ◌∙◌, rules}
use Rattle.pz_classes_code.specs.declared.slot.Slot.{Slot}
use Rattle.pz_classes_code.specs.declared.step.Step.{Step}
use Rattle.pz_classes_code.specs.StepView as step
use Rattle.pz_rules.specs.pz_state.declared.state.FrameId.{FrameId}
use Rattle.pz_rules.specs.declared.term.Term.{Term}
use Rattle.pz_rules.specs.declared.term.Term.TheVariants as form
use Rattle.pz_rules.specs.declared.term.Term.TheFolds.{the_lemmas}
use Rattle.pz_rules.specs.Terms as terms
use Rattle.pz_rules.specs.View.{term_view, terms_view}

shows_Seq : (t : Term) (rest : List Step) → term_view (form.Seq t rest) ≡ terms.sequence (term_view t) (step.sequence_view rest)
shows_Seq t rest = search (rules, the_lemmas)

shows_Sel : (ts : List Term) → term_view (form.Sel ts) ≡ terms.select (terms_view ts)
shows_Sel ts = search (rules, the_lemmas)

shows_Frame : (own : FrameId) (inputs : ℕ) (results : List Slot) (t : Term) → term_view (form.Frame own inputs results t) ≡ terms.frame own.0 inputs results (term_view t)
shows_Frame own inputs results t = search (rules, the_lemmas)

module _ (t : Term) where
  pub seq_is : (first got : Term) (rest : List Step) → t ≡ form.Seq first rest → got ≡ first → term_view t ≡ terms.sequence (term_view got) (step.sequence_view rest)
  seq_is first got rest is same = ap term_view (is ∙ ap (λ (x : Term). form.Seq x rest) (sym same)) ∙ shows_Seq got rest

  pub sel_is : (parts got : List Term) → t ≡ form.Sel parts → got ≡ parts → term_view t ≡ terms.select (terms_view got)
  sel_is parts got is same = ap term_view (is ∙ ap (λ (xs : List Term). form.Sel xs) (sym same)) ∙ shows_Sel got

  pub frame_is : (own : FrameId) (inputs : ℕ) (results slots : List Slot) (body got : Term) → t ≡ form.Frame own inputs results body → slots ≡ results → got ≡ body
      → term_view t ≡ terms.frame own.0 inputs slots (term_view got)
  frame_is own inputs results slots body got is outputs same =
      ap term_view (is ∙ ap (λ (xs : List Slot). form.Frame own inputs xs body) (sym outputs) ∙ ap (λ (x : Term). form.Frame own inputs slots x) (sym same)) ∙ shows_Frame own inputs slots got
