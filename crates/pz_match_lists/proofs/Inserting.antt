-- A number that is put at its place.
use Rattle.std.proofs.Common.{◌≡◌, ◌≢◌, ◌≤◌, ◌<◌, ◌+◌, ◌-◌, ◌⊎◌, inl, inr, refl, sym, ◌∙◌, ap, subst, ℕ, zero, suc, List, [], ◌∷◌, ◌++◌, length, get_or, set, arith}
use Rattle.std.specs.Prelude.{Contains, insert, Ok, Err}
use Rattle.std.specs.Ordering.{nat_cmp}
use Rattle.std.specs.List.Sorted.{IsBinarySearchResult}
use Rattle.std.proofs.lemmas.Bool.{cases_eq}
use Rattle.std.proofs.lemmas.List.{get_or_default}
use Rattle.std.proofs.lemmas.List.Sorted.{searched}
use Rattle.std.proofs.lemmas.List.Edits.{length-insert, get_or-insert_below, get_or-insert_at, get_or-insert_above}
use Rattle.pz_match_lists.specs.Increasing.{Increasing, list_at}

module _ (xs : List ℕ) (i y : ℕ) (le : i ≤ length xs) where
  pub has_inserted : Contains (insert xs i y) y
  has_inserted = (i, omega (arith, le, length-insert xs i y le), get_or-insert_at xs i y y le)

  pub keeps_inserted : (n : ℕ) → Contains xs n → Contains (insert xs i y) n
  keeps_inserted n there = by (split there.0 i)
    where
      split : (k i : ℕ) → (k < i) ⊎ (i ≤ k)
      split k i = grind arith

      by : (there.0 < i) ⊎ (i ≤ there.0) → Contains (insert xs i y) n
      by (inl before) = (there.0, omega (arith, before, le, length-insert xs i y le), get_or-insert_below xs i y n there.0 before le ∙ there.2)
      by (inr behind) = let lt = there.1 in (there.0 + 1, omega (arith, lt, length-insert xs i y le), get_or-insert_above xs i y n there.0 behind le ∙ there.2)

  module _ (up : Increasing xs) (below : (k : ℕ) → k < i → get_or xs k 0 < y) (above : (k : ℕ) → i ≤ k → k < length xs → y < get_or xs k 0) where
    at : (k d : ℕ) → ((k < i) × (get_or (insert xs i y) k d ≡ get_or xs k d)) ⊎ (((k ≡ i) × (get_or (insert xs i y) k d ≡ y)) ⊎ ((i < k) × (get_or (insert xs i y) k d ≡ get_or xs (k - 1) d)))
    at k d = by (split k i)
      where
        split : (k i : ℕ) → (k < i) ⊎ ((k ≡ i) ⊎ (i < k))
        split k i = grind arith

        by : (k < i) ⊎ ((k ≡ i) ⊎ (i < k)) → ((k < i) × (get_or (insert xs i y) k d ≡ get_or xs k d)) ⊎ (((k ≡ i) × (get_or (insert xs i y) k d ≡ y)) ⊎ ((i < k) × (get_or (insert xs i y) k d ≡ get_or xs (k - 1) d)))
        by (inl before) = inl (before, get_or-insert_below xs i y d k before le)
        by (inr (inl here)) = inr (inl (here, ap (λ j. get_or (insert xs i y) j d) here ∙ get_or-insert_at xs i y d le))
        by (inr (inr behind)) = let back : k ≡ k - 1 + 1 = omega (arith, behind) in inr (inr (behind, ap (λ j. get_or (insert xs i y) j d) back ∙ get_or-insert_above xs i y d (k - 1) (omega (arith, behind)) le))

    pub increasing_inserted : Increasing (insert xs i y)
    increasing_inserted a b d lt within = by (at a d) (at b d)
      where
        long : b < length xs + 1
        long = omega (arith, within, length-insert xs i y le)

        by : ((a < i) × (get_or (insert xs i y) a d ≡ get_or xs a d)) ⊎ (((a ≡ i) × (get_or (insert xs i y) a d ≡ y)) ⊎ ((i < a) × (get_or (insert xs i y) a d ≡ get_or xs (a - 1) d)))
            → ((b < i) × (get_or (insert xs i y) b d ≡ get_or xs b d)) ⊎ (((b ≡ i) × (get_or (insert xs i y) b d ≡ y)) ⊎ ((i < b) × (get_or (insert xs i y) b d ≡ get_or xs (b - 1) d)))
            → get_or (insert xs i y) a d < get_or (insert xs i y) b d
        by (inl (p, e)) (inl (q, f)) = let h = up a b d lt (omega (arith, q, le)) in omega (arith, e, f, h)
        by (inl (p, e)) (inr (inl (q, f))) = let h = below a p in let s = get_or_default xs a 0 d (omega (arith, p, le)) in omega (arith, e, f, h, s)
        by (inl (p, e)) (inr (inr (q, f))) = let h = up a (b - 1) d (omega (arith, p, q)) (omega (arith, long, q)) in omega (arith, e, f, h)
        by (inr (inl (p, e))) (inl (q, f)) = absurd (omega (arith, p, q, lt))
        by (inr (inl (p, e))) (inr (inl (q, f))) = absurd (omega (arith, p, q, lt))
        by (inr (inl (p, e))) (inr (inr (q, f))) = let h = above (b - 1) (omega (arith, q)) (omega (arith, long, q)) in let s = get_or_default xs (b - 1) 0 d (omega (arith, long, q)) in omega (arith, e, f, h, s)
        by (inr (inr (p, e))) (inl (q, f)) = absurd (omega (arith, p, q, lt))
        by (inr (inr (p, e))) (inr (inl (q, f))) = absurd (omega (arith, p, q, lt))
        by (inr (inr (p, e))) (inr (inr (q, f))) = let h = up (a - 1) (b - 1) d (omega (arith, p, lt)) (omega (arith, long, q)) in omega (arith, e, f, h)

rises : (xs : List ℕ) → Increasing xs → (i j : ℕ) → i ≤ j → j < length xs → get_or xs i 0 ≤ get_or xs j 0
rises xs up i j le lt = by (split i j le)
  where
    split : (i j : ℕ) → i ≤ j → (i < j) ⊎ (i ≡ j)
    split i j le = grind arith

    by : (i < j) ⊎ (i ≡ j) → get_or xs i 0 ≤ get_or xs j 0
    by (inl before) = let h = up i j 0 before lt in omega (arith, h)
    by (inr same) = let h : get_or xs i 0 ≡ get_or xs j 0 = ap (λ k. get_or xs k 0) same in omega (arith, h)

-- where a search says that a number is wanting
pub wanting : (xs seen : List ℕ) (i y : ℕ) → seen ≡ xs → Increasing xs → IsBinarySearchResult (λ z. nat_cmp z y) seen (Err i)
    → (i ≤ length xs) × ((k : ℕ) → k < i → get_or xs k 0 < y) × ((k : ℕ) → i ≤ k → k < length xs → y < get_or xs k 0)
wanting xs seen i y same up h = searched xs y (Err i) (subst (λ (zs : List ℕ). IsBinarySearchResult (λ z. nat_cmp z y) zs (Err i)) same h) (rises xs up)

-- where it is found
pub there : (xs seen : List ℕ) (i y : ℕ) → seen ≡ xs → Increasing xs → IsBinarySearchResult (λ z. nat_cmp z y) seen (Ok i) → Contains xs y
there xs seen i y same up h =
    let found = searched xs y (Ok i) (subst (λ (zs : List ℕ). IsBinarySearchResult (λ z. nat_cmp z y) zs (Ok i)) same h) (rises xs up) in
    (i, found.0, get_or_default xs i y 0 found.0 ∙ found.1)

-- the numbers on both sides of one that is found
module _ (xs : List ℕ) (i y : ℕ) (up : Increasing xs) (h : IsBinarySearchResult (λ z. nat_cmp z y) xs (Ok i)) where
  here : (i < length xs) × (get_or xs i 0 ≡ y)
  here = searched xs y (Ok i) h (rises xs up)

  pub found_below : (k : ℕ) → k < i → get_or xs k 0 < y
  found_below k lt = let less = up k i 0 lt here.0 in omega (arith, less, here.1)

  pub found_behind : (k : ℕ) → i ≤ k → k < length xs → y ≤ get_or xs k 0
  found_behind k le lt = let more = rises xs up i k le lt in omega (arith, more, here.1)

-- Lists of lists

pub set_here : (xs : List (List ℕ)) (p : ℕ) (ys : List ℕ) → p < length xs → list_at (set xs p ys) p ≡ ys
set_here [] p ys lt = absurd (omega (arith, lt))
set_here (x ∷ xs) zero ys lt = refl
set_here (x ∷ xs) (suc p) ys lt = set_here xs p ys (omega (arith, lt))

set_elsewhere : (xs : List (List ℕ)) (p k : ℕ) (ys : List ℕ) → k ≢ p → list_at (set xs p ys) k ≡ list_at xs k
set_elsewhere [] p k ys other = refl
set_elsewhere (x ∷ xs) zero zero ys other = absurd (other refl)
set_elsewhere (x ∷ xs) zero (suc k) ys other = refl
set_elsewhere (x ∷ xs) (suc p) zero ys other = refl
set_elsewhere (x ∷ xs) (suc p) (suc k) ys other = set_elsewhere xs p k ys (λ e. other (ap (λ n. suc n) e))

pub empty_pushed : (xs : List (List ℕ)) (ys : List ℕ) (k : ℕ) → ys ≡ [] → list_at (xs ++ ys ∷ []) k ≡ list_at xs k
empty_pushed [] ys zero none = none
empty_pushed [] ys (suc k) none = refl
empty_pushed (x ∷ xs) ys zero none = refl
empty_pushed (x ∷ xs) ys (suc k) none = empty_pushed xs ys k none

pub kept_in : (xs : List (List ℕ)) (p : ℕ) (ys zs : List ℕ) → p < length xs → ys ≡ list_at xs p → ((n : ℕ) → Contains ys n → Contains zs n) → (k n : ℕ) → Contains (list_at xs k) n → Contains (list_at (set xs p zs) k) n
kept_in xs p ys zs lt is keeps k n has = by (cases_eq k p)
  where
    by : (k ≡ p) ⊎ (k ≢ p) → Contains (list_at (set xs p zs) k) n
    by (inl same) =
        let was : Contains ys n = subst (λ (ms : List ℕ). Contains ms n) (ap (list_at xs) same ∙ sym is) has in
        subst (λ (ms : List ℕ). Contains ms n) (sym (ap (list_at (set xs p zs)) same ∙ set_here xs p zs lt)) (keeps n was)
    by (inr other) = subst (λ (ms : List ℕ). Contains ms n) (sym (set_elsewhere xs p k zs other)) has
