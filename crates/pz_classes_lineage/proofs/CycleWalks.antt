-- A walk up from a class, step by step.
use Rattle.std.proofs.Common.{◌≡◌, sym, subst, ◌∙◌, ℕ, ◌+◌, ◌<◌, ◌≢◌, List, length, Option, Some, None, get_or, set, arith, ◌⊎◌, inl, inr, get_or-set_same, get_or-set_other}
use Rattle.std.proofs.lemmas.Bool.{cases_eq}
use Rattle.pz_classes_lineage.specs.Reached.{Reaches, itself, further, GoesRound, round}
use Rattle.pz_classes_lineage.specs.devices.Walks.{IsWalked, AreWalked, Finds}
use Rattle.pz_classes_lineage.proofs.CycleWays.{one_more, back, round_on, not_at_root, kept_on}

-- the number of a class is the one that it had, or the class is new and has that of this walk
abbrev pub IsOldOrNew : List ℕ → ℕ → List ℕ → ℕ → Type 0
IsOldOrNew old start walks c = (get_or walks c 0 ≡ get_or old c 0) ⊎ ((get_or old c 0 ≡ 0) × (get_or walks c 0 ≡ start + 1))

-- a walk as it comes to the class at
pub record IsWalking (up : ℕ → Option ℕ) (old walks : List ℕ) (start at : ℕ) : Type 0 where
  pub each : (c : ℕ) → IsOldOrNew old start walks c
  pub closed : (c p : ℕ) → IsWalked walks c → up c ≡ Some p → IsWalked walks p ⊎ (p ≡ at)
  pub begun : IsWalked walks start ⊎ (start ≡ at)
  pub leads : (c : ℕ) → get_or walks c 0 ≡ start + 1 → (p : ℕ) × (up c ≡ Some p) × Reaches up p at

module _ (up : ℕ → Option ℕ) (old : List ℕ) (start : ℕ) (before : AreWalked up old start) where
  module _ (walks : List ℕ) (at : ℕ) (state : IsWalking up old walks start at) where
    -- it comes to a new class
    module _ (within : at < length walks) (new : get_or walks at 0 ≡ 0) where
      abbrev now : List ℕ
      now = set walks at (start + 1)

      here : get_or now at 0 ≡ start + 1
      here = get_or-set_same walks at (start + 1) 0 within

      elsewhere : (c : ℕ) → c ≢ at → get_or now c 0 ≡ get_or walks c 0
      elsewhere c other = get_or-set_other walks at c (start + 1) 0 other

      kept : (c : ℕ) → IsWalked walks c → IsWalked now c
      kept c is = by_place (cases_eq c at)
        where
          by_place : (c ≡ at) ⊎ (c ≢ at) → IsWalked now c
          by_place (inl same) = let none : get_or walks c 0 ≡ 0 = rw same new in absurd (omega arith)
          by_place (inr other) = let e = elsewhere c other in omega arith

      each_now : (c : ℕ) → IsOldOrNew old start now c
      each_now c = by_place (cases_eq c at) (state.each c)
        where
          by_place : (c ≡ at) ⊎ (c ≢ at) → IsOldOrNew old start walks c → IsOldOrNew old start now c
          by_place (inl same) (inl old_one) =
              let none : get_or walks c 0 ≡ 0 = rw same new in
              let marked : get_or now c 0 ≡ start + 1 = rw same here in
              inr (sym old_one ∙ none, marked)
          by_place (inl same) (inr new_one) = let none : get_or walks c 0 ≡ 0 = rw same new in absurd (omega arith)
          by_place (inr other) (inl old_one) = inl (elsewhere c other ∙ old_one)
          by_place (inr other) (inr new_one) = inr (new_one.0, elsewhere c other ∙ new_one.1)

      at_walked : IsWalked now at
      at_walked = let e = here in omega arith

      closed_now : (c p : ℕ) → IsWalked now c → up c ≡ Some p → IsWalked now p ⊎ (up at ≡ Some p)
      closed_now c p is step = by_place (cases_eq c at)
        where
          by_parent : IsWalked walks p ⊎ (p ≡ at) → IsWalked now p ⊎ (up at ≡ Some p)
          by_parent (inl was) = inl (kept p was)
          by_parent (inr same) = inl (subst (λ (x : ℕ). IsWalked now x) (sym same) at_walked)

          by_place : (c ≡ at) ⊎ (c ≢ at) → IsWalked now p ⊎ (up at ≡ Some p)
          by_place (inl same) = inr (subst (λ (x : ℕ). up x ≡ Some p) same step)
          by_place (inr other) = let e = elsewhere c other in by_parent (state.closed c p (omega arith) step)

      begun_now : IsWalked now start
      begun_now = by_start state.begun
        where
          by_start : IsWalked walks start ⊎ (start ≡ at) → IsWalked now start
          by_start (inl was) = kept start was
          by_start (inr same) = subst (λ (x : ℕ). IsWalked now x) (sym same) at_walked

      leads_now : (c : ℕ) → get_or now c 0 ≡ start + 1 → Reaches up c at
      leads_now c is = by_place (cases_eq c at)
        where
          by_place : (c ≡ at) ⊎ (c ≢ at) → Reaches up c at
          by_place (inl same) = subst (λ (x : ℕ). Reaches up x at) (sym same) (itself at)
          by_place (inr other) = let lead = state.leads c (sym (elsewhere c other) ∙ is) in further c lead.0 at lead.1 lead.2

      pub goes_on : (q : ℕ) → up at ≡ Some q → IsWalking up old now start q
      goes_on q next = record {
        each = each_now;
        closed = λ c p is step. by_parent p (closed_now c p is step);
        begun = inl begun_now;
        leads = λ c is. by_place c is (cases_eq c at);
      }
        where
          by_parent : (p : ℕ) → IsWalked now p ⊎ (up at ≡ Some p) → IsWalked now p ⊎ (p ≡ q)
          by_parent p (inl was) = inl was
          by_parent p (inr same) = inr cc

          by_place : (c : ℕ) → get_or now c 0 ≡ start + 1 → (c ≡ at) ⊎ (c ≢ at) → (p : ℕ) × (up c ≡ Some p) × Reaches up p q
          by_place c is (inl same) = (q, subst (λ (x : ℕ). up x ≡ Some q) (sym same) next, itself q)
          by_place c is (inr other) =
              let lead = state.leads c (sym (elsewhere c other) ∙ is) in
              (lead.0, lead.1, one_more up lead.0 at q lead.2 next)

      module _ (root : up at ≡ None) where
        pub none_to_root : Finds up old now None
        none_to_root c is goes = by_walk (each_now c)
          where
            by_walk : IsOldOrNew old start now c → IsWalked old c
            by_walk (inl same) = omega arith
            by_walk (inr new_one) = absurd (not_at_root up at root (round_on up c at (leads_now c new_one.1) goes))

    -- it comes to a class that is not new
    module _ (known : IsWalked walks at) where
      leads_to : (c : ℕ) → get_or walks c 0 ≡ start + 1 → Reaches up c at
      leads_to c is = let lead = state.leads c is in further c lead.0 at lead.1 lead.2

      pub comes_back : get_or walks at 0 ≡ start + 1 → Finds up old walks (Some at)
      comes_back own = (let lead = state.leads at own in round at lead.0 lead.1 lead.2, λ c is goes. by_walk c is goes (state.each c))
        where
          by_walk : (c : ℕ) → IsWalked walks c → GoesRound up c → IsOldOrNew old start walks c → IsWalked old c ⊎ Reaches up at c
          by_walk c is goes (inl same) = inl (omega arith)
          by_walk c is goes (inr new_one) = inr (back up c at (leads_to c new_one.1) goes)

      pub comes_to_older : get_or walks at 0 ≢ start + 1 → Finds up old walks None
      comes_to_older older c is goes = by_walk (state.each c)
        where
          at_old : (get_or walks at 0 ≡ get_or old at 0) ⊎ ((get_or old at 0 ≡ 0) × (get_or walks at 0 ≡ start + 1)) → IsWalked old at
          at_old (inl same) = omega arith
          at_old (inr new_one) = absurd (older new_one.1)

          by_walk : IsOldOrNew old start walks c → IsWalked old c
          by_walk (inl same) = omega arith
          by_walk (inr new_one) = kept_on up (λ x. IsWalked old x) before.closed at c (back up c at (leads_to c new_one.1) goes) (at_old (state.each at))
