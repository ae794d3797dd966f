-- Heights of what stands there.
use Rattle.std.proofs.Common.{◌≡◌, ◌≤◌, ℕ, suc, min, List, [], ◌∷◌, length, get_or, refl, sym, ap, subst, ◌∙◌, arith}
use Rattle.std.specs.Borrow.{Bor}
use Rattle.pz_classes_code.specs.pz_syntax.declared.tokens.Pos.{Pos}
use Rattle.pz_classes_code.specs.pz_syntax.Expressions.{none}
use Rattle.pz_classes_code.specs.pz_syntax.Statements.{bracketed, guarded, parallel, select, abort, interrupt, call}
use Rattle.pz_classes_code.specs.declared.code.Code.{Code}
use Rattle.pz_classes_code.specs.declared.step.Step.{Step, fold-Step}
use Rattle.pz_classes_code.specs.declared.step.StepForm.{StepForm, fold-StepForm, map-StepForm}
use Rattle.pz_classes_code.specs.declared.step.StepForm.TheOpen.{StepForm-F}
use Rattle.pz_classes_code.specs.declared.step.StepForm.TheVariants as form
use Rattle.pz_classes_code.specs.declared.step.StepForm.TheVariants.{rolls-Guard, rolls-Par, rolls-Sel, rolls-Abort, rolls-Interrupt}
use Rattle.pz_classes_code.specs.declared.step.StepForm.TheViews.{out-StepForm, roll-StepForm, roll-out-StepForm}
use Rattle.pz_classes_code.specs.declared.step.StepForm.TheFolds.{fold-roll-StepForm}
use Rattle.pz_classes_code.specs.StepView.{Tree, form_view, form_step, step_step, view, sequence_view}
use Rattle.pz_rules.specs.Terms.{height}
use Rattle.pz_rules.specs.Settings.{Home}
use Rattle.pz_rules.specs.devices.Outlines.{outlined, outlined_all}
use Rattle.pz_part_opening.specs.declared.spot.Spot.{Spot}
use Rattle.pz_part_opening.specs.declared.spot.Spot.TheVariants.{Several}
use Rattle.pz_part_opening.specs.devices.Spots.{spot_view, StepStands}
use Rattle.pz_part_opening.proofs.Outlining.{call_stands}
use Rattle.pz_part_opening.proofs.Ways.{view_of}

-- a statement that has no part which opens
abbrev pub IsSmall : Tree → Type 0
IsSmall (guarded pos e t) = ⊥
IsSmall (parallel pos bs) = ⊥
IsSmall (select pos bs) = ⊥
IsSmall (abort pos ts t) = ⊥
IsSmall (interrupt pos ts t) = ⊥
IsSmall t = Unit {0}

small_is_low : (h : Home) (t : Tree) → StepStands h t → IsSmall t → height (outlined h t) ≡ 1
small_is_low h (bracketed pos ts) stands small = absurd stands
small_is_low h (guarded pos e t) stands small = absurd small
small_is_low h (parallel pos bs) stands small = absurd small
small_is_low h (select pos bs) stands small = absurd small
small_is_low h (abort pos ts t) stands small = absurd small
small_is_low h (interrupt pos ts t) stands small = absurd small
small_is_low h (call pos method none []) stands small = ap height (call_stands h pos method stands)
small_is_low h t stands small = refl

-- no form with such parts
pub record IsOther (x : StepForm) : Type 0 where
  pub guard : (e : Code) (s : Step) → x ≡ form.Guard e s → ⊥
  pub par : (bs : List (List Step)) → x ≡ form.Par bs → ⊥
  pub sel : (bs : List (List Step)) → x ≡ form.Sel bs → ⊥
  pub both : (ss : List Step) (s : Step) → x ≡ form.Abort ss s → ⊥
  pub again : (ss : List Step) (s : Step) → x ≡ form.Interrupt ss s → ⊥

module _ (pos : Pos) where
  abbrev formed : StepForm-F StepForm Step → Tree
  formed x = form_step (map-StepForm StepForm Step (Pos → Tree) Tree (fold-StepForm (Pos → Tree) Tree form_step step_step) (fold-Step (Pos → Tree) Tree form_step step_step) x) pos

  rolled : (x : StepForm-F StepForm Step) → IsSmall (formed x) → IsSmall (form_view (roll-StepForm x) pos)
  rolled x small = subst (λ (g : Pos → Tree). IsSmall (g pos)) (sym (fold-roll-StepForm (Pos → Tree) Tree form_step step_step x)) small

  small_form : (x : StepForm-F StepForm Step) → IsOther (roll-StepForm x) → IsSmall (form_view (roll-StepForm x) pos)
  small_form (StepForm-F.Guard e s) others = absurd (others.guard e s (rolls-Guard e s))
  small_form (StepForm-F.Par bs) others = absurd (others.par bs (rolls-Par bs))
  small_form (StepForm-F.Sel bs) others = absurd (others.sel bs (rolls-Sel bs))
  small_form (StepForm-F.Abort ss s) others = absurd (others.both ss s (rolls-Abort ss s))
  small_form (StepForm-F.Interrupt ss s) others = absurd (others.again ss s (rolls-Interrupt ss s))
  small_form StepForm-F.Skip others = rolled StepForm-F.Skip tt
  small_form (StepForm-F.Delay e) others = rolled (StepForm-F.Delay e) tt
  small_form (StepForm-F.Group ts) others = rolled (StepForm-F.Group ts) tt
  small_form (StepForm-F.Block es) others = rolled (StepForm-F.Block es) tt
  small_form (StepForm-F.If e body other) others = rolled (StepForm-F.If e body other) tt
  small_form (StepForm-F.While e body) others = rolled (StepForm-F.While e body) tt
  small_form (StepForm-F.Send port name args after) others = rolled (StepForm-F.Send port name args after) tt
  small_form (StepForm-F.Receive port name into condition after) others = rolled (StepForm-F.Receive port name into condition after) tt
  small_form (StepForm-F.Call method args results) others = rolled (StepForm-F.Call method args results) tt
  small_form (StepForm-F.Eval e) others = rolled (StepForm-F.Eval e) tt

pub is_small : (s : Step) → IsOther s.form → IsSmall (view s)
is_small s others =
    let P : StepForm → Type 0 = λ x. IsOther x → IsSmall (form_view x s.pos) in
    subst IsSmall (sym (view_of s.pos s.form)) (subst P (roll-out-StepForm s.form) (small_form s.pos (out-StepForm s.form)) others)

pub low : (h : Home) (s : Step) (room : ℕ) → StepStands h (view s) → 1 ≤ room → IsOther s.form → 1 ≡ min (height (outlined h (view s))) room
low h s room stands some others =
    let one = small_is_low h (view s) stands (is_small s others) in
    omega (arith, one)

-- the first of several is one lower than they are
pub first_lower : (h : Home) (spot : Spot) (steps : Bor (List Step)) (got : List Step) (s : Step) → spot ≡ Several steps → got ≡ steps.now → 2 ≤ length got → s ≡ get_or got 0 s
    → height (outlined_all h (spot_view spot)) ≡ suc (height (outlined h (view s)))
first_lower h spot steps [] s is same two first = absurd (omega (arith, two))
first_lower h spot steps (r ∷ []) s is same two first = absurd (omega (arith, two))
first_lower h spot steps (r ∷ q ∷ rest) s is same two first =
    ap (λ (x : Spot). height (outlined_all h (spot_view x))) is
    ∙ ap (λ (ts : List Step). height (outlined_all h (sequence_view ts))) (sym same)
    ∙ ap (λ (x : Step). suc (height (outlined h (view x)))) (sym first)
