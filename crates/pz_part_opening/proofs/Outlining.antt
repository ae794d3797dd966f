-- Outlines of what stands there, further in and as it is.
use Rattle.std.proofs.Common.{◌≡◌, ◌<◌, ℕ, zero, suc, Bool, true, false, ◌||◌, IsTrue, List, [], ◌∷◌, Option, Some, None, inl, inr, refl, sym, ap, subst, ◌∙◌}
use Rattle.std.specs.Borrow.{Bor}
use Rattle.std.specs.Option.{is_some}
use Rattle.pz_classes_code.specs.pz_syntax.declared.tokens.Pos.{Pos}
use Rattle.pz_classes_code.specs.pz_syntax.declared.names.Id.{Id}
use Rattle.pz_classes_code.specs.pz_syntax.Expressions as expressions
use Rattle.pz_classes_code.specs.pz_syntax.Statements.{bracketed, call, no_statements, then}
use Rattle.pz_classes.specs.pz_classes_rules.Bodies.{BodyTree, data_body, process_body}
use Rattle.pz_classes_code.specs.declared.step.Step as code
use Rattle.pz_classes_code.specs.StepView.{view, sequence_view}
use Rattle.pz_rules.specs.declared.limits.Edition.{Edition}
use Rattle.pz_rules.specs.declared.limits.Edition.TheVariants.{One, Two}
use Rattle.pz_rules.specs.Terms.{Step, Steps, Term, leaf, height}
use Rattle.pz_rules.specs.Settings.{Home}
use Rattle.pz_rules.specs.Framing.{framed}
use Rattle.pz_rules.specs.Leaving.{is_done}
use Rattle.pz_rules.specs.Opening.{called_body, depth_of}
use Rattle.pz_rules.specs.CallLaws.{plain_call}
use Rattle.pz_rules.specs.devices.Outlines.{outlined, outlined_all, outlined_to, outlined_in, by_body_outlined, steps_outlined, OutlinesUnfold}
use Rattle.pz_rules.specs.devices.Weights.{weight_all, CallsAreHeavier}
use Rattle.pz_part_opening.specs.Bare.{is_bare}
use Rattle.pz_part_opening.specs.declared.spot.Spot.{Spot}
use Rattle.pz_part_opening.specs.declared.spot.Spot.TheVariants.{One as OneStep, Several}
use Rattle.pz_part_opening.specs.declared.spot.Way.{Way}
use Rattle.pz_part_opening.specs.devices.Spots.{spot_view, CallStands, StepStands, Stands, IsInside, IsWay}
use Rattle.pz_part_opening.specs.devices.Rounds.{round_outline}
use Rattle.pz_part_opening.proofs.Framings.{framed_again, framed_as}
use Rattle.pz_part_opening.proofs.Lighter.{lighter_inside}

-- one way further in

pub was_framed : (before further after : Bool) → after ≡ before → before ≡ true → after ≡ (before || further)
was_framed true further after same is = same
was_framed false further after same is = let both : false ≡ true = is in cc

pub was_not : (before further after r : Bool) → after ≡ r → r ≡ further → before ≡ false → after ≡ (before || further)
was_not true further after r same so is = let both : true ≡ false = is in cc
was_not false further after r same so is = same ∙ so

module _ (h : Home) (unfolds : OutlinesUnfold) (heavier : CallsAreHeavier) where
  inside_opens : (whole : Steps) (locals : Option ℕ) (inner : Steps) → IsInside h whole locals inner → outlined_all h whole ≡ round_outline (is_some locals) (outlined_all h inner)
  inside_opens whole None inner is = ap (outlined_all h) is.is
  inside_opens whole (Some locals) inner is = ap (outlined_all h) is.is ∙ unfolds h is.pos is.method locals inner is.opens is.called

  rounds : (before further : Bool) (t : Term) → round_outline before (round_outline further t) ≡ round_outline (before || further) t
  rounds true true t = framed_again 0 0 t
  rounds true false t = refl
  rounds false further t = refl

  pub goes_in : (whole : Steps) (way : Way) (before after : Bool) (t : Term) → IsWay h whole way → t ≡ round_outline before (outlined_all h whole) → after ≡ (before || is_some way.locals)
      → t ≡ round_outline after (outlined_all h (sequence_view way.steps.now))
  goes_in whole way before after t is opened joined =
      let inner = outlined_all h (sequence_view way.steps.now) in
      opened ∙ ap (round_outline before) (inside_opens whole way.locals (sequence_view way.steps.now) is)
      ∙ rounds before (is_some way.locals) inner ∙ ap (λ (b : Bool). round_outline b inner) (sym joined)

  pub gets_lighter : (whole : Steps) (way : Way) → IsWay h whole way → weight_all h (sequence_view way.steps.now) < weight_all h whole
  gets_lighter whole way is = lighter_inside h heavier whole way.locals (sequence_view way.steps.now) is

-- a call that stands is a leaf

by_none : (o : Option BodyTree) (opens : Steps → Term) (r : Step) → ((locals : ℕ) (body : Steps) → o ≡ Some (process_body locals body) → ⊥) → by_body_outlined o opens r ≡ leaf r
by_none None opens r never = refl
by_none (Some (data_body locals body)) opens r never = refl
by_none (Some (process_body locals body)) opens r never = absurd (never locals body refl)

module _ (h : Home) (pos : Pos) (method : Id) where
  to_leaf : (depth : ℕ) → ((locals : ℕ) (body : Steps) → called_body h method ≡ Some (process_body locals body) → ⊥) → outlined_to h depth (plain_call pos method) ≡ leaf (plain_call pos method)
  to_leaf zero never = refl
  to_leaf (suc depth) never = by_none (called_body h method) (steps_outlined (outlined_to h depth)) (plain_call pos method) never

  in_leaf : (e : Edition) → ((locals : ℕ) (body : Steps) → called_body h method ≡ Some (process_body locals body) → ⊥) → outlined_in e h (plain_call pos method) ≡ leaf (plain_call pos method)
  in_leaf One never = refl
  in_leaf Two never = to_leaf (depth_of h.model) never

  pub call_stands : CallStands h method → outlined h (plain_call pos method) ≡ leaf (plain_call pos method)
  call_stands (inl one) = ap (λ (e : Edition). outlined_in e h (plain_call pos method)) one
  call_stands (inr never) = in_leaf h.edition never

-- what stands is no frame without outputs

leaf_of : (P : Term → Type 0) (t : Term) (r : Step) → t ≡ leaf r → P (leaf r) → P t
leaf_of P t r is holds = subst P (sym is) holds

some_there : (r : code.Step) (ts : List code.Step) → (r ∷ ts) ≡ [] → ⊥
some_there r ts e = cc

module _ (h : Home) where
  step_not_bare : (r : Step) → StepStands h r → is_bare (outlined h r) ≡ false
  step_not_bare (bracketed pos ts) stands = absurd stands
  step_not_bare (call pos method expressions.none []) stands = leaf_of (λ (t : Term). is_bare t ≡ false) (outlined h (plain_call pos method)) (plain_call pos method) (call_stands h pos method stands) refl
  step_not_bare r stands = refl

  step_not_done : (r : Step) → StepStands h r → is_done (outlined h r) ≡ false
  step_not_done (bracketed pos ts) stands = absurd stands
  step_not_done (call pos method expressions.none []) stands = leaf_of (λ (t : Term). is_done t ≡ false) (outlined h (plain_call pos method)) (plain_call pos method) (call_stands h pos method stands) refl
  step_not_done r stands = refl

  pub all_not_bare : (ts : Steps) → Stands h ts → is_bare (outlined_all h ts) ≡ false
  all_not_bare no_statements stands = refl
  all_not_bare ((then) r no_statements) stands = step_not_bare r stands
  all_not_bare ((then) r ((then) q rest)) stands = refl

  -- a frame round it is one higher
  pub frame_stands : (ts : Steps) → Stands h ts → height (framed 0 0 [] (outlined_all h ts)) ≡ suc (height (outlined_all h ts))
  frame_stands ts stands = ap height (framed_as 0 (outlined_all h ts) (all_not_bare ts stands))

  -- it is done where there is no statement

  one_not_done : (r : Step) → StepStands h r → false ≡ is_done (outlined h r)
  one_not_done r stands = sym (step_not_done r stands)

  done_if_none : (ts : List code.Step) (b : Bool) → Stands h (sequence_view ts) → (IsTrue b → ts ≡ []) → (ts ≡ [] → IsTrue b) → b ≡ is_done (outlined_all h (sequence_view ts))
  done_if_none [] true stands empty is_empty = refl
  done_if_none [] false stands empty is_empty = is_empty refl
  done_if_none (r ∷ ts) true stands empty is_empty = absurd (some_there r ts (empty refl))
  done_if_none (r ∷ []) false stands empty is_empty = one_not_done (view r) stands
  done_if_none (r ∷ q ∷ rest) false stands empty is_empty = refl

  abbrev IsDone : Bool → Spot → Type 0
  IsDone b spot = b ≡ is_done (outlined_all h (spot_view spot))

  pub one_stands : (spot : Spot) (step : Bor code.Step) → spot ≡ OneStep step → Stands h (spot_view spot) → IsDone false spot
  one_stands spot step is stands = subst (IsDone false) (sym is) (one_not_done (view step.now) (subst (λ (x : Spot). Stands h (spot_view x)) is stands))

  pub stand_if_some : (spot : Spot) (steps : Bor (List code.Step)) (got : List code.Step) (b : Bool) → spot ≡ Several steps → got ≡ steps.now → (IsTrue b → got ≡ []) → (got ≡ [] → IsTrue b) → Stands h (spot_view spot) → IsDone b spot
  stand_if_some spot steps got b is same empty is_empty stands =
      subst (IsDone b) (sym is) (done_if_none steps.now b (subst (λ (x : Spot). Stands h (spot_view x)) is stands) (λ so. sym same ∙ empty so) (λ so. is_empty (same ∙ so)))
