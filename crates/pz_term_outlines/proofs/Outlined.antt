-- Outlines from their parts, and of statements that wait.
use Rattle.std.proofs.Common.{◌≡◌, ℕ, suc, Bool, false, List, [], ◌∷◌, length, Some, None, refl, sym, ap, ◌∙◌, arith}
use Rattle.std.specs.List.{slice_get}
use Rattle.std.proofs.lemmas.Option.{same_Some, none-some}
use Rattle.pz_classes_code.specs.declared.step.Step.{Step}
use Rattle.pz_classes_code.specs.StepView as step
use Rattle.pz_rules.specs.pz_state.States.{StateView}
use Rattle.pz_rules.specs.Terms.{Term, done, height}
use Rattle.pz_rules.specs.Settings.{Home}
use Rattle.pz_rules.specs.Opening.{opened, opened_all}
use Rattle.pz_rules.specs.Leaving.{is_done}
use Rattle.pz_part_opening.specs.Bare.{is_bare}
use Rattle.pz_term_outlines.specs.declared.outline.Outline.{Outline}
use Rattle.pz_term_outlines.specs.Capped.{capped}
use Rattle.pz_term_outlines.specs.Outlines.{outline, IsAbove}

abbrev made : ℕ → Bool → Bool → Outline
made h d b = record { height = h; done = d; bare = b }

outlined : (h : ℕ) (d b : Bool) (t : Term) → h ≡ capped (height t) → d ≡ is_done t → b ≡ is_bare t → made h d b ≡ outline t
outlined h d b t high ended bare =
    ap (λ (x : ℕ). made x d b) high ∙ ap (λ (x : Bool). made (capped (height t)) x b) ended ∙ ap (λ (x : Bool). made (capped (height t)) (is_done t) x) bare

pub outlined_above : (h n : ℕ) (t : Term) → h ≡ capped (suc n) → IsAbove t n → made h false false ≡ outline t
outlined_above h n t high above = outlined h false false t (high ∙ ap capped (sym above.one_more)) (sym above.undone) (sym above.other)

module _ (h : Home) where
  pub outlined_opened : (high : ℕ) (d b : Bool) (s : Step) → ((z : StateView) → high ≡ capped (height (opened h (step.view s) z).term)) → ((z : StateView) → d ≡ is_done (opened h (step.view s) z).term)
      → ((z : StateView) → b ≡ is_bare (opened h (step.view s) z).term) → (z : StateView) → made high d b ≡ outline (opened h (step.view s) z).term
  outlined_opened high d b s height_is done_is bare_is z = outlined high d b (opened h (step.view s) z).term (height_is z) (done_is z) (bare_is z)

  -- statements that wait, by the first of them

  pub none_wait : (rest : List Step) → None ≡ slice_get rest 0 → (z : StateView) → outline done ≡ outline (opened_all h (step.sequence_view rest) z).term
  none_wait [] none z = refl
  none_wait (s ∷ rest) none z = absurd (none-some s none)

  pub one_waits : (rest : List Step) (s : Step) → Some s ≡ slice_get rest 0 → length rest ≡ 1 → (z : StateView) → outline (opened h (step.view s) z).term ≡ outline (opened_all h (step.sequence_view rest) z).term
  one_waits [] s first one z = absurd (omega (arith, one))
  one_waits (r ∷ []) s first one z = ap (λ (x : Step). outline (opened h (step.view x) z).term) (same_Some s r first)
  one_waits (r ∷ q ∷ rest) s first one z = absurd (omega (arith, one))

  pub more_wait : (rest : List Step) (s : Step) (high : ℕ) (result : Outline) → Some s ≡ slice_get rest 0 → (length rest ≡ 1 → ⊥) → ((z : StateView) → high ≡ capped (height (opened h (step.view s) z).term))
      → ((t : Term) (n : ℕ) → high ≡ capped n → IsAbove t n → result ≡ outline t) → (z : StateView) → result ≡ outline (opened_all h (step.sequence_view rest) z).term
  more_wait [] s high result first more height_is above z = absurd (none-some s (sym first))
  more_wait (r ∷ []) s high result first more height_is above z = absurd (more refl)
  more_wait (r ∷ q ∷ rest) s high result first more height_is above z =
      above (opened_all h (step.sequence_view (r ∷ q ∷ rest)) z).term (height (opened h (step.view r) z).term) (height_is z ∙ ap (λ (x : Step). capped (height (opened h (step.view x) z).term)) (same_Some s r first))
      (record { one_more = refl; undone = refl; other = refl })
