-- Ways up from a class: one that goes a step further than there is need comes round.
use Rattle.std.proofs.Common.{◌≡◌, refl, sym, ap, subst, ◌∙◌, ℕ, zero, suc, List, [], ◌∷◌, ◌++◌, Option, Some, None, arith, ◌⊎◌, inl, inr, ◌≤◌}
use Rattle.std.specs.List.{Contains}
use Rattle.std.specs.Option.{option_map_or}
use Rattle.std.proofs.lemmas.List.Elements.{Contains-append_right}
use Rattle.pz_classes_lineage.specs.Reached.{Reaches, itself, further}
use Rattle.pz_bind_rules.specs.pz_classes_rules.Ancestors.{followed}
use Rattle.pz_env_grown.proofs.Elements.{none_in, first_in, in_cases}

module _ (up : ℕ → Option ℕ) where
  -- what is followed is reached
  pub is_reached : (n c k : ℕ) → Contains (followed up n c) k → Reaches up c k
  is_reached zero c k here = absurd (none_in k here)
  is_reached (suc n) c k here = by_place (in_cases c (option_map_or (followed up n) (up c) []) k here) (is_reached n)
    where
      by_parent : (o : Option ℕ) → up c ≡ o → Contains (option_map_or (followed up n) o []) k
          → ((p j : ℕ) → Contains (followed up n p) j → Reaches up p j) → Reaches up c k
      by_parent None is at from = absurd (none_in k at)
      by_parent (Some p) is at from = further c p k is (from p k at)

      by_place : (c ≡ k) ⊎ Contains (option_map_or (followed up n) (up c) []) k
          → ((p j : ℕ) → Contains (followed up n p) j → Reaches up p j) → Reaches up c k
      by_place (inl same) from = subst (λ (x : ℕ). Reaches up c x) same (itself c)
      by_place (inr later) from = by_parent (up c) refl later from

  -- one step more comes to one more class
  pub record More (n c : ℕ) : Type 0 where
    pub last : ℕ
    pub is : followed up (suc n) c ≡ followed up n c ++ last ∷ []

  pub one_more : (n c : ℕ) → (followed up (suc n) c ≡ followed up n c) ⊎ More n c
  one_more zero c = inr (record { last = c; is = by_parent (up c) })
    where
      by_parent : (o : Option ℕ) → c ∷ option_map_or (followed up zero) o [] ≡ c ∷ []
      by_parent None = refl
      by_parent (Some p) = refl
  one_more (suc n) c = by_parent (up c) refl (one_more n)
    where
      by_parent : (o : Option ℕ) → up c ≡ o → ((p : ℕ) → (followed up (suc n) p ≡ followed up n p) ⊎ More n p)
          → (followed up (suc (suc n)) c ≡ followed up (suc n) c) ⊎ More (suc n) c
      by_parent None is rest = inl (rw is refl)
      by_parent (Some p) is rest = on (rest p)
        where
          on : (followed up (suc n) p ≡ followed up n p) ⊎ More n p → (followed up (suc (suc n)) c ≡ followed up (suc n) c) ⊎ More (suc n) c
          on (inl same) = inl (rw is (ap (λ (l : List ℕ). c ∷ l) same))
          on (inr more) = inr (record { last = more.last; is = rw is (ap (λ (l : List ℕ). c ∷ l) more.is) })

  -- a class, and its parent from which that class is reached
  pub record ComesRound (c : ℕ) : Type 0 where
    pub above : ℕ
    pub is_above : up c ≡ Some above
    pub back : Reaches up above c

  -- each class on the way has a parent, from which one comes to the last
  leads_on : (n c y k : ℕ) → Contains (followed up n c) y → followed up (suc n) c ≡ followed up n c ++ k ∷ []
      → (p : ℕ) × (up y ≡ Some p) × Reaches up p k
  leads_on zero c y k here is = absurd (none_in y here)
  leads_on (suc n) c y k here is = by_parent (up c) refl (leads_on n)
    where
      by_parent : (o : Option ℕ) → up c ≡ o
          → ((q z l : ℕ) → Contains (followed up n q) z → followed up (suc n) q ≡ followed up n q ++ l ∷ [] → (p : ℕ) × (up z ≡ Some p) × Reaches up p l)
          → (p : ℕ) × (up y ≡ Some p) × Reaches up p k
      by_parent None none rest = let wrong : c ∷ [] ≡ c ∷ k ∷ [] = rw none at is in cc
      by_parent (Some q) above rest =
          by_place (in_cases c (followed up n q) y (subst (λ (o : Option ℕ). Contains (c ∷ option_map_or (followed up n) o []) y) above here))
        where
          tail : followed up (suc n) q ≡ followed up n q ++ k ∷ []
          tail = let both : c ∷ followed up (suc n) q ≡ c ∷ (followed up n q ++ k ∷ []) = rw above at is in cc

          last_there : Contains (followed up (suc n) q) k
          last_there = subst (λ (l : List ℕ). Contains l k) (sym tail) (Contains-append_right (followed up n q) (k ∷ []) k (first_in k []))

          by_place : (c ≡ y) ⊎ Contains (followed up n q) y → (p : ℕ) × (up y ≡ Some p) × Reaches up p k
          by_place (inl same) = (q, ap up (sym same) ∙ above, is_reached (suc n) q k last_there)
          by_place (inr later) = rest q y k later tail

  -- Where the last class was there before, it comes round.
  pub round : (n c : ℕ) (more : More n c) → Contains (followed up n c) more.last → ComesRound more.last
  round n c more here = let r = leads_on n c more.last more.last here more.is in record { above = r.0; is_above = r.1; back = r.2 }

  pub last_reached : (n c : ℕ) (more : More n c) → Reaches up c more.last
  last_reached n c more =
      is_reached (suc n) c more.last (subst (λ (l : List ℕ). Contains l more.last) (sym more.is) (Contains-append_right (followed up n c) (more.last ∷ []) more.last (first_in more.last [])))

  -- what one step more does not change no further step does
  pub stays : (n k c : ℕ) → n ≤ k → followed up (suc n) c ≡ followed up n c → followed up k c ≡ followed up n c
  stays zero k c low is = cc
  stays (suc n) zero c low is = absurd (omega (arith, low))
  stays (suc n) (suc k) c low is = by_parent (up c) is (stays n k)
    where
      by_parent : (o : Option ℕ) → c ∷ option_map_or (followed up (suc n)) o [] ≡ c ∷ option_map_or (followed up n) o []
          → ((p : ℕ) → n ≤ k → followed up (suc n) p ≡ followed up n p → followed up k p ≡ followed up n p)
          → c ∷ option_map_or (followed up k) o [] ≡ c ∷ option_map_or (followed up n) o []
      by_parent None same rest = refl
      by_parent (Some p) same rest =
          let tail : followed up (suc n) p ≡ followed up n p = cc in ap (λ (l : List ℕ). c ∷ l) (rest p (omega (arith, low)) tail)

-- Ways along two parents that are the same for all classes on the way
pub followed_same : (up above : ℕ → Option ℕ) (IsKept : ℕ → Type 0) → ((c : ℕ) → IsKept c → above c ≡ up c)
    → ((c p : ℕ) → up c ≡ Some p → IsKept p) → (n c : ℕ) → IsKept c → followed above n c ≡ followed up n c
followed_same up above IsKept same parents zero c kept = refl
followed_same up above IsKept same parents (suc n) c kept =
    ap (λ (o : Option ℕ). c ∷ option_map_or (followed above n) o []) (same c kept)
    ∙ by_parent (up c) refl (followed_same up above IsKept same parents n)
  where
    by_parent : (o : Option ℕ) → up c ≡ o → ((p : ℕ) → IsKept p → followed above n p ≡ followed up n p)
        → c ∷ option_map_or (followed above n) o [] ≡ c ∷ option_map_or (followed up n) o []
    by_parent None is rest = refl
    by_parent (Some p) is rest = ap (λ (l : List ℕ). c ∷ l) (rest p (parents c p is))
