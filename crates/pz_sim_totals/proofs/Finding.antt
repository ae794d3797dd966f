-- An action of a sum of neighbours, and the sum that a total makes with its neighbour.
use Rattle.std.proofs.Common.{◌≡◌, ℕ, zero, suc, ◌+◌, ◌-◌, ◌*◌, ◌/◌, ◌%◌, ◌<◌, ◌≤◌, ◌⊎◌, inl, inr, Option, Some, None, List, [], ◌∷◌, length, set, get_or, take, refl, sym, ap, subst, ◌∙◌, arith}
use Rattle.std.specs.Prelude.{MatchOption}
use Rattle.std.proofs.lemmas.List.{length-set, get_or-set_same, get_or-set_other}
use Rattle.pz_sim_totals.specs.declared.total.Total.{Total}
use Rattle.pz_sim_totals.specs.Sums.{none, both, all, AreNumbers, IsAction}
use Rattle.pz_sim_totals.specs.devices.Levels.{pairs}
use Rattle.pz_sim_totals.proofs.Pairing.{pair_at, alone_at, twice, twice_is, inside, both_associative, numbers_inside}

front_pairs : (ts : List Total) (h : ℕ) → twice h ≤ length ts → all (take h (pairs ts)) ≡ all (take (twice h) ts)
front_pairs ts zero le = refl
front_pairs [] (suc h) le = absurd (omega (arith, le))
front_pairs (s ∷ []) (suc h) le = absurd (omega (arith, le))
front_pairs (s ∷ (t ∷ ts)) (suc h) le = rw (front_pairs ts h (omega (arith, le))) (both_associative s t (all (take (twice h) ts)))

one_more : (ts : List Total) (i : ℕ) (d : Total) → i < length ts → (all (take (suc i) ts)).summary.internal ≡ (all (take i ts)).summary.internal + (get_or ts i d).summary.internal
one_more [] i d lt = absurd (omega (arith, lt))
one_more (s ∷ ts) zero d lt = omega arith
one_more (s ∷ ts) (suc i) d lt = let rest = one_more ts i d (omega (arith, lt)) in omega (arith, rest)

module _ (ts : List Total) (h n k : ℕ) (pair : IsAction (pairs ts) k (record { process = h; number = n })) where
  here : twice h < length ts
  here = inside ts h pair.process

  before : (all (take (twice h) ts)).summary.internal + n ≡ k
  before = let le = here in subst (λ (s : Total). s.summary.internal + n ≡ k) (front_pairs ts h (omega (arith, le))) pair.before

  pub is_left : n < (get_or ts (2 * h) none).summary.internal → IsAction ts k (record { process = 2 * h; number = n })
  is_left lt = subst (λ i. n < (get_or ts i none).summary.internal → IsAction ts k (record { process = i; number = n })) (twice_is h) (λ lt. record { process = here; number = lt; before = before }) lt

  right_of : (get_or ts (twice h) none).summary.internal ≤ n → suc (twice h) < length ts
  right_of le = by (split (suc (twice h)) (length ts) (let lt = here in omega (arith, lt)))
    where
      split : (a b : ℕ) → a ≤ b → (a < b) ⊎ (a ≡ b)
      split a b le = grind arith

      by : (suc (twice h) < length ts) ⊎ (suc (twice h) ≡ length ts) → suc (twice h) < length ts
      by (inl lt) = lt
      by (inr long) =
          let lt = pair.number in
          let same = ap (λ (s : Total). s.summary.internal) (alone_at ts h none none long) in
          absurd (omega (arith, lt, same, le))

  right : (get_or ts (twice h) none).summary.internal ≤ n → IsAction ts k (record { process = twice h + 1; number = n - (get_or ts (twice h) none).summary.internal })
  right le =
      let there = right_of le in
      let on : twice h + 1 ≡ suc (twice h) = omega arith in
      let lt = pair.number in
      let sum = ap (λ (s : Total). s.summary.internal) (pair_at ts h none none none there) in
      let front = one_more ts (twice h) none here in
      let whole = before in
      rw on record {
        process = there;
        number = omega (arith, lt, sum, le);
        before = omega (arith, front, whole, le);
      }

  pub is_right : (get_or ts (2 * h) none).summary.internal ≤ n → IsAction ts k (record { process = 2 * h + 1; number = n - (get_or ts (2 * h) none).summary.internal })
  is_right le = subst (λ i. (get_or ts i none).summary.internal ≤ n → IsAction ts k (record { process = i + 1; number = n - (get_or ts i none).summary.internal })) (twice_is h) right le

-- A total in another's place, and its neighbour

module _ (ts : List Total) (i : ℕ) (t : Total) (lt : i < length ts) where
  size : length (set ts i t) ≡ length ts
  size = length-set ts i t

  odd_at : i % 2 ≡ 1 → suc (twice (i / 2)) ≡ i
  odd_at odd = let two = twice_is (i / 2) in omega (arith, two, odd)

  even_at : (i % 2 ≡ 1 → ⊥) → twice (i / 2) ≡ i
  even_at even = by (split (i % 2) (omega arith))
    where
      split : (r : ℕ) → r < 2 → (r ≡ 0) ⊎ (r ≡ 1)
      split zero lt = inl refl
      split (suc zero) lt = inr refl
      split (suc (suc r)) lt = absurd (omega (arith, lt))

      by : (i % 2 ≡ 0) ⊎ (i % 2 ≡ 1) → twice (i / 2) ≡ i
      by (inl none_left) = let two = twice_is (i / 2) in omega (arith, two, none_left)
      by (inr odd) = absurd (even odd)

  same : get_or (set ts i t) i none ≡ t
  same = get_or-set_same ts i t none lt

  other : (k : ℕ) → (k ≡ i → ⊥) → get_or (set ts i t) k none ≡ get_or ts k none
  other k ne = get_or-set_other ts i k t none ne

  -- with the one before it
  module _ (odd : i % 2 ≡ 1) where
    before_it : get_or (set ts i t) (i - 1) none ≡ get_or ts (i - 1) none
    before_it = let at = odd_at odd in other (i - 1) (λ e. absurd (omega (arith, at, e)))

    pub sum_before : both (get_or ts (i - 1) none) t ≡ get_or (pairs (set ts i t)) (i / 2) none
    sum_before =
        let at = odd_at odd in
        let long = size in
        let first : twice (i / 2) ≡ i - 1 = omega (arith, at) in
        let left : get_or (set ts i t) (twice (i / 2)) none ≡ get_or ts (i - 1) none = ap (λ k. get_or (set ts i t) k none) first ∙ before_it in
        let right : get_or (set ts i t) (suc (twice (i / 2))) none ≡ t = ap (λ k. get_or (set ts i t) k none) at ∙ same in
        sym (pair_at (set ts i t) (i / 2) none none none (omega (arith, long, lt, at)) ∙ (λ k. both (left k) (right k)))

    pub numbers_before : AreNumbers (all (set ts i t)) → AreNumbers (both (get_or ts (i - 1) none) t)
    numbers_before are =
        let at = odd_at odd in
        let long = size in
        let on : suc (i - 1) ≡ i = omega (arith, at) in
        let right : get_or (set ts i t) (suc (i - 1)) none ≡ t = ap (λ k. get_or (set ts i t) k none) on ∙ same in
        subst AreNumbers (λ k. both (before_it k) (right k)) (numbers_inside (set ts i t) (i - 1) none none (omega (arith, long, lt, on)) are)

  -- with the one behind it, or alone
  module _ (even : i % 2 ≡ 1 → ⊥) where
    module _ (more : i + 1 < length ts) where
      behind_it : get_or (set ts i t) (suc i) none ≡ get_or ts (i + 1) none
      behind_it = let on : suc i ≡ i + 1 = omega arith in other (suc i) (λ e. absurd (omega (arith, e))) ∙ ap (λ k. get_or ts k none) on

      pub sum_behind : both t (get_or ts (i + 1) none) ≡ get_or (pairs (set ts i t)) (i / 2) none
      sum_behind =
          let at = even_at even in
          let long = size in
          let left : get_or (set ts i t) (twice (i / 2)) none ≡ t = ap (λ k. get_or (set ts i t) k none) at ∙ same in
          let right : get_or (set ts i t) (suc (twice (i / 2))) none ≡ get_or ts (i + 1) none = ap (λ k. get_or (set ts i t) (suc k) none) at ∙ behind_it in
          sym (pair_at (set ts i t) (i / 2) none none none (omega (arith, long, more, at)) ∙ (λ k. both (left k) (right k)))

      pub numbers_behind : AreNumbers (all (set ts i t)) → AreNumbers (both t (get_or ts (i + 1) none))
      numbers_behind are =
          let long = size in
          subst AreNumbers (λ k. both (same k) (behind_it k)) (numbers_inside (set ts i t) i none none (omega (arith, long, more)) are)

    pub sum_alone : length ts ≤ i + 1 → t ≡ get_or (pairs (set ts i t)) (i / 2) none
    sum_alone le =
        let at = even_at even in
        let long = size in
        sym (alone_at (set ts i t) (i / 2) none none (omega (arith, long, le, lt, at)) ∙ ap (λ k. get_or (set ts i t) k none) at ∙ same)

pub summed : (r : Option Total) (s v : Total) {A : Type 0} → MatchOption r (AreNumbers s → ⊥) (λ x. x ≡ s) → (A → AreNumbers s) → s ≡ v → MatchOption r (A → ⊥) (λ x. x ≡ v)
summed None s v past are is = λ a. past (are a)
summed (Some x) s v sum are is = sum ∙ is
