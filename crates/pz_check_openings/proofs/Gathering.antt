-- The least of what is found place by place.
use Rattle.std.proofs.Common.{◌≡◌, refl, sym, subst, ◌∙◌, ℕ, ◌+◌, ◌<◌, ◌≤◌, ◌⊎◌, inl, inr, Option, Some, None, arith}
use Rattle.pz_classes.specs.pz_check_violations.declared.violation.Violation.{Violation}
use Rattle.pz_classes.specs.pz_check_violations.Order.{IsLeast}
use Rattle.pz_classes.specs.pz_check_violations.Least.{LeastOf, sooner}
use Rattle.pz_classes.proofs.pz_check_violations_proofs.TwoLeasts.{sooner_is_least}
use Rattle.pz_check_openings.specs.devices.InClass.{Among}

-- the least of a set is that of the same set in other words
pub least_alike : (V W : Violation → Type 0) → ((v : Violation) → V v → W v) → ((v : Violation) → W v → V v) → (found : Option Violation) → LeastOf V found → LeastOf W found
least_alike V W to from None none = λ v here. none v (from v here)
least_alike V W to from (Some u) is = record { violated = to u is.violated; least = λ v here. is.least v (from v here) }

module _ (P : ℕ → Violation → Type 0) where
  pub none_among : LeastOf (Among P 0) None
  none_among v (i, below, here) = omega arith

  to : (n : ℕ) (v : Violation) → Among P n v ⊎ P n v → Among P (n + 1) v
  to n v (inl (i, below, here)) = (i, omega arith, here)
  to n v (inr here) = (n, omega arith, here)

  from : (n : ℕ) (v : Violation) → Among P (n + 1) v → Among P n v ⊎ P n v
  from n v (i, below, here) = by_place (place i n)
    where
      place : (u w : ℕ) → (u < w) ⊎ (w ≤ u)
      place u w = grind arith

      by_place : (i < n) ⊎ (n ≤ i) → Among P n v ⊎ P n v
      by_place (inl less) = inl (i, less, here)
      by_place (inr last) = let same : i ≡ n = omega arith in inr (subst (λ (j : ℕ). P j v) same here)

  -- one place more
  pub one_among : (n next : ℕ) (least found now : Option Violation) → next ≡ n + 1 → LeastOf (Among P n) least → LeastOf (P n) found → now ≡ sooner least found → LeastOf (Among P next) now
  one_among n next least found now step before here is =
      rw (is, step) (least_alike (λ v. Among P n v ⊎ P n v) (Among P (n + 1)) (to n) (from n) (sooner least found) (sooner_is_least (Among P n) (P n) least found before here))
