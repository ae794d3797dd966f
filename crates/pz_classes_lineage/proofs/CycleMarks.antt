-- The marking of a class and its ancestors, step by step.
use Rattle.std.proofs.Common.{◌≡◌, refl, sym, subst, ◌∙◌, ℕ, ◌<◌, ◌≢◌, ◌↔◌, Bool, true, false, List, length, Option, Some, None, get_or, set, ◌⊎◌, inl, inr, get_or-set_same, get_or-set_other}
use Rattle.std.proofs.lemmas.Bool.{cases_eq}
use Rattle.pz_classes_lineage.specs.Reached.{Reaches, itself}
use Rattle.pz_classes_lineage.specs.devices.Walks.{IsMarked, AreMarkedUp}
use Rattle.pz_classes_lineage.proofs.CycleWays.{one_more, kept_on}

-- the marking of ancestors as it comes to the class at
pub record IsMarking (up : ℕ → Option ℕ) (old marks : List Bool) (start at : ℕ) : Type 0 where
  pub kept : (c : ℕ) → IsMarked old c → IsMarked marks c
  pub only : (c : ℕ) → IsMarked marks c → IsMarked old c ⊎ Reaches up start c
  pub closed : (c p : ℕ) → IsMarked marks c → up c ≡ Some p → IsMarked marks p ⊎ (p ≡ at)
  pub begun : IsMarked marks start ⊎ (start ≡ at)
  pub led : Reaches up start at

module _ (up : ℕ → Option ℕ) (old : List Bool) (start : ℕ) where
  pub begins : AreMarkedUp up old → IsMarking up old old start start
  begins before = record {
    kept = λ c is. is;
    only = λ c is. inl is;
    closed = λ c p is step. inl (before c p is step);
    begun = inr refl;
    led = itself start;
  }

  -- once all ancestors are marked
  marked : (marks : List Bool) → ((c : ℕ) → IsMarked old c → IsMarked marks c) → ((c : ℕ) → IsMarked marks c → IsMarked old c ⊎ Reaches up start c)
      → ((c p : ℕ) → IsMarked marks c → up c ≡ Some p → IsMarked marks p) → IsMarked marks start → (c : ℕ) → IsMarked marks c ↔ (IsMarked old c ⊎ Reaches up start c)
  marked marks kept only closed begun c = (only c, by_way)
    where
      by_way : IsMarked old c ⊎ Reaches up start c → IsMarked marks c
      by_way (inl was) = kept c was
      by_way (inr way) = kept_on up (λ x. IsMarked marks x) closed start c way begun

  module _ (marks : List Bool) (at : ℕ) (state : IsMarking up old marks start at) where
    -- at a class that is marked already
    pub marked_to_known : IsMarked marks at → (c : ℕ) → IsMarked marks c ↔ (IsMarked old c ⊎ Reaches up start c)
    marked_to_known known = marked marks state.kept state.only closed (by_start state.begun)
      where
        by_start : IsMarked marks start ⊎ (start ≡ at) → IsMarked marks start
        by_start (inl was) = was
        by_start (inr same) = subst (λ (x : ℕ). IsMarked marks x) (sym same) known

        closed : (c p : ℕ) → IsMarked marks c → up c ≡ Some p → IsMarked marks p
        closed c p is step = by_parent (state.closed c p is step)
          where
            by_parent : IsMarked marks p ⊎ (p ≡ at) → IsMarked marks p
            by_parent (inl was) = was
            by_parent (inr same) = subst (λ (x : ℕ). IsMarked marks x) (sym same) known

    module _ (within : at < length marks) where
      abbrev now : List Bool
      now = set marks at true

      at_marked : IsMarked now at
      at_marked = get_or-set_same marks at true false within

      elsewhere : (c : ℕ) → c ≢ at → get_or now c false ≡ get_or marks c false
      elsewhere c other = get_or-set_other marks at c true false other

      stays : (c : ℕ) → IsMarked marks c → IsMarked now c
      stays c is = by_place (cases_eq c at)
        where
          by_place : (c ≡ at) ⊎ (c ≢ at) → IsMarked now c
          by_place (inl same) = subst (λ (x : ℕ). IsMarked now x) (sym same) at_marked
          by_place (inr other) = elsewhere c other ∙ is

      only_now : (c : ℕ) → IsMarked now c → IsMarked old c ⊎ Reaches up start c
      only_now c is = by_place (cases_eq c at)
        where
          by_place : (c ≡ at) ⊎ (c ≢ at) → IsMarked old c ⊎ Reaches up start c
          by_place (inl same) = inr (subst (λ (x : ℕ). Reaches up start x) (sym same) state.led)
          by_place (inr other) = state.only c (sym (elsewhere c other) ∙ is)

      closed_now : (c p : ℕ) → IsMarked now c → up c ≡ Some p → IsMarked now p ⊎ (up at ≡ Some p)
      closed_now c p is step = by_place (cases_eq c at)
        where
          by_parent : IsMarked marks p ⊎ (p ≡ at) → IsMarked now p ⊎ (up at ≡ Some p)
          by_parent (inl was) = inl (stays p was)
          by_parent (inr same) = inl (subst (λ (x : ℕ). IsMarked now x) (sym same) at_marked)

          by_place : (c ≡ at) ⊎ (c ≢ at) → IsMarked now p ⊎ (up at ≡ Some p)
          by_place (inl same) = inr (subst (λ (x : ℕ). up x ≡ Some p) same step)
          by_place (inr other) = by_parent (state.closed c p (sym (elsewhere c other) ∙ is) step)

      begun_now : IsMarked now start
      begun_now = by_start state.begun
        where
          by_start : IsMarked marks start ⊎ (start ≡ at) → IsMarked now start
          by_start (inl was) = stays start was
          by_start (inr same) = subst (λ (x : ℕ). IsMarked now x) (sym same) at_marked

      pub goes_on : (q : ℕ) → up at ≡ Some q → IsMarking up old now start q
      goes_on q next = record {
        kept = λ c is. stays c (state.kept c is);
        only = only_now;
        closed = λ c p is step. by_parent p (closed_now c p is step);
        begun = inl begun_now;
        led = one_more up start at q state.led next;
      }
        where
          by_parent : (p : ℕ) → IsMarked now p ⊎ (up at ≡ Some p) → IsMarked now p ⊎ (p ≡ q)
          by_parent p (inl was) = inl was
          by_parent p (inr same) = inr cc

      pub marked_to_root : up at ≡ None → (c : ℕ) → IsMarked now c ↔ (IsMarked old c ⊎ Reaches up start c)
      marked_to_root root = marked now (λ c is. stays c (state.kept c is)) only_now (λ c p is step. by_parent p (closed_now c p is step)) begun_now
        where
          by_parent : (p : ℕ) → IsMarked now p ⊎ (up at ≡ Some p) → IsMarked now p
          by_parent p (inl was) = was
          by_parent p (inr same) = cc
