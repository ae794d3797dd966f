-- The ways in, and what stands as it is.
use Rattle.std.proofs.Common.{◌≡◌, ◌≤◌, Bool, true, false, IsTrue, List, [], ◌∷◌, length, refl, sym, ap, subst, ◌∙◌, arith, rules}
use Rattle.std.specs.Borrow.{Bor}
use Rattle.pz_classes_code.specs.pz_syntax.declared.tokens.Pos.{Pos}
use Rattle.pz_classes_code.specs.pz_syntax.declared.names.Id.{Id}
use Rattle.pz_classes_code.specs.pz_syntax.Statements.{call}
use Rattle.pz_classes_code.specs.declared.code.Code.{Code}
use Rattle.pz_classes_code.specs.declared.slot.Slot.{Slot}
use Rattle.pz_classes_code.specs.CodeView.{list_view}
use Rattle.pz_classes_code.specs.declared.step.Step.{Step}
use Rattle.pz_classes_code.specs.declared.step.StepForm.{StepForm}
use Rattle.pz_classes_code.specs.declared.step.StepForm.TheVariants as form
use Rattle.pz_classes_code.specs.declared.step.StepForm.TheFolds.{the_lemmas}
use Rattle.pz_classes_code.specs.StepView as step
use Rattle.pz_rules.specs.Terms as terms
use Rattle.pz_rules.specs.Settings.{Home}
use Rattle.pz_part_opening.specs.devices.Spots.{spot_view, Stands, StepStands}
use Rattle.pz_part_opening.specs.declared.spot.Spot.{Spot}
use Rattle.pz_part_opening.specs.declared.spot.Spot.TheVariants.{Several}

-- what statements of the code stand for

pub view_of : (pos : Pos) (x : StepForm) → step.view (record { pos = pos; form = x }) ≡ step.form_view x pos
view_of pos x = search (rules, the_lemmas)

shown_call : (pos : Pos) (method : Id) (args : List Code) (results : List Slot) → step.form_view (form.Call method args results) pos ≡ call pos method (list_view args) results
shown_call pos method args results = search (rules, the_lemmas)

call_view : (s : Step) (method : Id) (args : List Code) (results : List Slot) → s.form ≡ form.Call method args results → step.view s ≡ call s.pos method (list_view args) results
call_view s method args results is = view_of s.pos s.form ∙ ap (λ (x : StepForm). step.form_view x s.pos) is ∙ shown_call s.pos method args results

-- a call with inputs or results is no plain call

with_inputs : (h : Home) (pos : Pos) (method : Id) (args : List Code) (results : List Slot) → (args ≡ [] → ⊥) → StepStands h (call pos method (list_view args) results)
with_inputs h pos method [] results some = absurd (some refl)
with_inputs h pos method (e ∷ es) results some = tt

with_results : (h : Home) (pos : Pos) (method : Id) (args : List Code) (results : List Slot) → (results ≡ [] → ⊥) → StepStands h (call pos method (list_view args) results)
with_results h pos method args [] some = absurd (some refl)
with_results h pos method [] (x ∷ xs) some = tt
with_results h pos method (e ∷ es) (x ∷ xs) some = tt

not_true : (b : Bool) → b ≡ false → IsTrue b → ⊥
not_true b is holds = let both : true ≡ false = sym (sym is ∙ holds) in cc

module _ (h : Home) (s : Step) (method : Id) (args : List Code) (results : List Slot) (is : s.form ≡ form.Call method args results) where
  stands : StepStands h (call s.pos method (list_view args) results) → StepStands h (step.view s)
  stands = subst (λ (t : terms.Step). StepStands h t) (sym (call_view s method args results is))

  pub some_inputs : (got : List Code) (b : Bool) → got ≡ args → (got ≡ [] → IsTrue b) → b ≡ false → StepStands h (step.view s)
  some_inputs got b same empty some = stands (with_inputs h s.pos method args results (λ none. not_true b some (empty (same ∙ none))))

  pub some_results : (got : List Slot) (b : Bool) → got ≡ results → (got ≡ [] → IsTrue b) → b ≡ false → StepStands h (step.view s)
  some_results got b same empty some = stands (with_results h s.pos method args results (λ none. not_true b some (empty (same ∙ none))))

-- nothing alone stands where several do
pub several_stand : (h : Home) (spot : Spot) (steps : Bor (List Step)) (got : List Step) → spot ≡ Several steps → got ≡ steps.now → 2 ≤ length got → Stands h (spot_view spot)
several_stand h spot steps [] is same two = absurd (omega (arith, two))
several_stand h spot steps (r ∷ []) is same two = absurd (omega (arith, two))
several_stand h spot steps (r ∷ q ∷ rest) is same two =
    rw is (subst (λ (ts : List Step). Stands h (step.sequence_view ts)) same tt)
