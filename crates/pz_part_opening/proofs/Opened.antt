-- What statements open as, in whatever state, by its outline.
use Rattle.std.proofs.Common.{◌≡◌, ◌≤◌, ℕ, suc, min, Bool, true, false, List, [], ◌∷◌, length, get_or, refl, sym, ap, ◌∙◌, arith}
use Rattle.pz_classes_code.specs.declared.step.Step.{Step}
use Rattle.pz_classes_code.specs.StepView.{view, sequence_view}
use Rattle.pz_rules.specs.pz_state.States.{StateView}
use Rattle.pz_rules.specs.Terms.{Steps, Term, frame, height}
use Rattle.pz_rules.specs.Settings.{Home}
use Rattle.pz_rules.specs.Framing.{framed}
use Rattle.pz_rules.specs.Leaving.{is_done}
use Rattle.pz_rules.specs.Openable.{alone}
use Rattle.pz_rules.specs.Opening.{opened_all}
use Rattle.pz_rules.specs.devices.Outlines.{outline, outlined_all, OpeningsHaveOutlines, OutlinesAreAsHigh, OutlinesAreAsDone}
use Rattle.pz_part_opening.specs.Bare.{is_bare}
use Rattle.pz_part_opening.specs.devices.Rounds.{round_outline}
use Rattle.pz_part_opening.specs.devices.Spots.{Stands}
use Rattle.pz_part_opening.proofs.Outlining.{all_not_bare}

outlines_are_as_bare : (t : Term) → is_bare (outline t) ≡ is_bare t
outlines_are_as_bare (frame number inputs [] t) = refl
outlines_are_as_bare (frame number inputs (x ∷ xs) t) = refl
outlines_are_as_bare t = refl

framed_is_bare : (t : Term) → is_bare (framed 0 0 [] t) ≡ true
framed_is_bare (frame number inputs [] t) = refl
framed_is_bare (frame number inputs (x ∷ xs) t) = refl
framed_is_bare t = refl

framed_is_not_done : (t : Term) → is_done (framed 0 0 [] t) ≡ false
framed_is_not_done (frame number inputs [] t) = refl
framed_is_not_done (frame number inputs (x ∷ xs) t) = refl
framed_is_not_done t = refl

module _ (outlines : OpeningsHaveOutlines) (h : Home) (s : StateView) where
  module _ (high : OutlinesAreAsHigh) (room found : ℕ) where
    pub as_high : (ts : Steps) → found ≡ min (height (outlined_all h ts)) room → found ≡ min (height (opened_all h ts s).term) room
    as_high ts is = is ∙ ap (λ (n : ℕ). min n room) (ap height (sym (outlines h ts s)) ∙ high (opened_all h ts s).term)

    pub one_as_high : (ts : List Step) (r : Step) → length ts ≡ 1 → r ≡ get_or ts 0 r → found ≡ min (height (outlined_all h (alone (view r)))) room → found ≡ min (height (opened_all h (sequence_view ts) s).term) room
    one_as_high [] r one first is = absurd (omega (arith, one))
    one_as_high (q ∷ []) r one first is = as_high (alone (view q)) (is ∙ ap (λ (x : Step). min (height (outlined_all h (alone (view x)))) room) first)
    one_as_high (q ∷ p ∷ rest) r one first is = absurd (omega (arith, one))

    pub several_as_high : (ts : List Step) (r : Step) → 2 ≤ length ts → r ≡ get_or ts 0 r → found ≡ min (suc (height (outlined_all h (alone (view r))))) room → found ≡ min (height (opened_all h (sequence_view ts) s).term) room
    several_as_high [] r two first is = absurd (omega (arith, two))
    several_as_high (q ∷ []) r two first is = absurd (omega (arith, two))
    several_as_high (q ∷ p ∷ rest) r two first is =
        as_high (sequence_view (q ∷ p ∷ rest)) (is ∙ ap (λ (x : Step). min (suc (height (outlined_all h (alone (view x))))) room) first)

  -- what stands in the end, further in
  module _ (whole inner : Steps) (b : Bool) (opened : outlined_all h whole ≡ round_outline b (outlined_all h inner)) (stands : Stands h inner) where
    round_bare : (b : Bool) → b ≡ is_bare (round_outline b (outlined_all h inner))
    round_bare true = sym (framed_is_bare (outlined_all h inner))
    round_bare false = sym (all_not_bare h inner stands)

    pub as_bare : b ≡ is_bare (opened_all h whole s).term
    as_bare = round_bare b ∙ ap is_bare (sym opened ∙ sym (outlines h whole s)) ∙ outlines_are_as_bare (opened_all h whole s).term

    module _ (done : OutlinesAreAsDone) where
      as_done : (found : Bool) → found ≡ is_done (outlined_all h whole) → found ≡ is_done (opened_all h whole s).term
      as_done found is = is ∙ ap is_done (sym (outlines h whole s)) ∙ done (opened_all h whole s).term

      pub unframed_as_done : (found : Bool) → b ≡ false → found ≡ is_done (outlined_all h inner) → found ≡ is_done (opened_all h whole s).term
      unframed_as_done found unframed is = as_done found (is ∙ ap is_done (sym (opened ∙ ap (λ (c : Bool). round_outline c (outlined_all h inner)) unframed)))

      pub framed_as_done : (found : Bool) → b ≡ true → found ≡ false → found ≡ is_done (opened_all h whole s).term
      framed_as_done found is_framed is =
          as_done found (is ∙ sym (framed_is_not_done (outlined_all h inner)) ∙ ap is_done (sym (opened ∙ ap (λ (c : Bool). round_outline c (outlined_all h inner)) is_framed)))
