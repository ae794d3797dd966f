-- Outlines of a term whose part at a place has become another, form by form.
use Rattle.std.proofs.Common.{◌≡◌, ◌<◌, ℕ, zero, suc, List, ◌∷◌, ◌++◌, length, take, drop, get_or, sym, subst, ap, ◌∙◌, arith}
use Rattle.pz_classes_code.specs.declared.slot.Slot.{Slot}
use Rattle.pz_rules.specs.pz_offer.PlaceOrder.{Place}
use Rattle.pz_rules.specs.declared.term.Term.{Term}
use Rattle.pz_rules.specs.Terms as terms
use Rattle.pz_rules.specs.Terms.{Code, Step, Steps, sequence, parallel, select, guarded, frame, abort, idle, handling, Terms, count, term_at, child, frame_in}
use Rattle.pz_rules.specs.View.{term_view, terms_view}
use Rattle.pz_rules.specs.Places.{MayAct}
use Rattle.pz_rules.specs.Settings.{left_by, Home}
use Rattle.pz_rules.specs.Leaving.{residual}
use Rattle.pz_term_outlines.specs.declared.outline.Outline.{Outline}
use Rattle.pz_term_outlines.specs.Outlines.{IsRound, IsLeft}
use Rattle.pz_term_outlines.proofs.Beside.{count_is, part_is, part_at, parted}

-- where a part may act

pub seen_may : (t u : terms.Term) (place : Place) → t ≡ u → MayAct t place → MayAct u place
seen_may t u place same may = subst (λ (x : terms.Term). MayAct x place) same may

pub among_within : (ts : List Term) (i : ℕ) (inner : Place) → MayAct (parallel (terms_view ts)) (i ∷ inner) → i < length ts
among_within ts i inner may = omega (arith, may.0, count_is ts)

pub select_within : (ts : List Term) (i : ℕ) (inner : Place) → MayAct (select (terms_view ts)) (i ∷ inner) → i < length ts
select_within ts i inner may = omega (arith, may.0, count_is ts)

pub select_may : (ts : List Term) (i : ℕ) (inner : Place) (t : Term) → t ≡ get_or ts i t → MayAct (select (terms_view ts)) (i ∷ inner) → MayAct (term_view t) inner
select_may ts i inner t is may = seen_may (term_at (terms_view ts) i) (term_view t) inner (part_is ts i t (select_within ts i inner may) is) may.1

pub among_may : (ts before from behind : List Term) (i : ℕ) (inner : Place) (t : Term) → before ≡ take i ts → from ≡ drop i ts → from ≡ t ∷ behind → length before ≡ i
    → MayAct (parallel (terms_view ts)) (i ∷ inner) → MayAct (term_view t) inner
among_may ts before from behind i inner t front back first counted may =
    let whole = parted ts before from behind i t front back first in
    let is : term_at (terms_view ts) i ≡ term_view t =
    ap (λ (l : List Term). term_at (terms_view l) i) (sym whole) ∙ ap (λ (k : ℕ). term_at (terms_view (before ++ t ∷ behind)) k) (sym counted) ∙ part_at before t behind in
    seen_may (term_at (terms_view ts) i) (term_view t) inner is may.1

-- outlines

module _ (h : Home) (part result : Outline) where
  pub seen_left : (t u : terms.Term) (place : Place) → t ≡ u → IsLeft h part u place result → IsLeft h part t place result
  seen_left t u place same left = subst (λ (x : terms.Term). IsLeft h part x place result) (sym same) left

  inside : (middle : Outline) (t : terms.Term) (i : ℕ) (inner : Place) → IsLeft h part (child t i) inner middle → IsRound h middle t i result → IsLeft h part t (i ∷ inner) result
  inside middle t i inner deep round f s x same =
      let p = residual h (frame_in t f) (child t i) inner (left_by s x) in
      round f p.state p.term (deep (frame_in t f) s x same)

  pub sequence_left : (middle : Outline) (t : terms.Term) (rest : Steps) (i : ℕ) (inner : Place) → MayAct (sequence t rest) (i ∷ inner) → IsLeft h part t inner middle
      → ((u : terms.Term) (j : ℕ) → IsRound h middle (sequence u rest) j result) → IsLeft h part (sequence t rest) (i ∷ inner) result
  sequence_left middle t rest zero inner may deep round = inside middle (sequence t rest) 0 inner deep (round t 0)
  sequence_left middle t rest (suc i) inner may deep round = absurd (omega (arith, may.0))

  pub frame_left : (middle : Outline) (number inputs : ℕ) (results : List Slot) (t : terms.Term) (i : ℕ) (inner : Place) → MayAct (frame number inputs results t) (i ∷ inner) → IsLeft h part t inner middle
      → ((n m : ℕ) (u : terms.Term) (j : ℕ) → IsRound h middle (frame n m results u) j result) → IsLeft h part (frame number inputs results t) (i ∷ inner) result
  frame_left middle number inputs results t zero inner may deep round = inside middle (frame number inputs results t) 0 inner deep (round number inputs t 0)
  frame_left middle number inputs results t (suc i) inner may deep round = absurd (omega (arith, may.0))

  pub select_left : (ts : List Term) (i : ℕ) (inner : Place) (t : Term) → t ≡ get_or ts i t → MayAct (select (terms_view ts)) (i ∷ inner) → IsLeft h part (term_view t) inner result
      → IsLeft h part (select (terms_view ts)) (i ∷ inner) result
  select_left ts i inner t is may deep =
      inside result (select (terms_view ts)) i inner (seen_left (term_at (terms_view ts) i) (term_view t) inner (part_is ts i t (select_within ts i inner may) is) deep) (λ f s x same. same)

  pub among_left : (middle : Outline) (ts before from behind : List Term) (i : ℕ) (inner : Place) (t : Term) → before ≡ take i ts → from ≡ drop i ts → from ≡ t ∷ behind → length before ≡ i
      → IsLeft h part (term_view t) inner middle → ((u : Term) → IsRound h middle (parallel (terms_view (before ++ u ∷ behind))) (length before) result)
      → IsLeft h part (parallel (terms_view ts)) (i ∷ inner) result
  among_left middle ts before from behind i inner t front back first counted deep round =
      let us = before ++ t ∷ behind in
      let at = inside middle (parallel (terms_view us)) (length before) inner (seen_left_middle (term_at (terms_view us) (length before)) (part_at before t behind)) (round t) in
      subst (λ (l : List Term). IsLeft h part (parallel (terms_view l)) (i ∷ inner) result) (parted ts before from behind i t front back first)
      (subst (λ (k : ℕ). IsLeft h part (parallel (terms_view us)) (k ∷ inner) result) counted at)
    where
      seen_left_middle : (u : terms.Term) → u ≡ term_view t → IsLeft h part u inner middle
      seen_left_middle u same = subst (λ (x : terms.Term). IsLeft h part x inner middle) (sym same) deep

  pub abort_left_first : (middle : Outline) (t u : terms.Term) (i : ℕ) (inner : Place) → i ≡ 0 → IsLeft h part t inner middle → ((v : terms.Term) → IsRound h middle (abort v u) 0 result) → IsLeft h part (abort t u) (i ∷ inner) result
  abort_left_first middle t u zero inner first deep round = inside middle (abort t u) 0 inner deep (round t)
  abort_left_first middle t u (suc i) inner first deep round = absurd (omega (arith, first))

  pub idle_left_first : (middle : Outline) (t u : terms.Term) (again : Step) (i : ℕ) (inner : Place) → i ≡ 0 → IsLeft h part t inner middle → ((v : terms.Term) (s : Step) → IsRound h middle (idle v u s) 0 result)
      → IsLeft h part (idle t u again) (i ∷ inner) result
  idle_left_first middle t u again zero inner first deep round = inside middle (idle t u again) 0 inner deep (round t again)
  idle_left_first middle t u again (suc i) inner first deep round = absurd (omega (arith, first))
