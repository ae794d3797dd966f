-- Nobody is among his own ancestors where parents have smaller ranks.
use Rattle.std.proofs.Common.{◌≡◌, ℕ, ◌<◌, ◌≤◌, Option, Some, arith}
use Rattle.pz_classes_lineage.specs.Reached.{Reaches, itself, further, GoesRound, round}

module _ (up : ℕ → Option ℕ) (rank : ℕ → ℕ) (falls : (c p : ℕ) → up c ≡ Some p → rank p < rank c) where
  ancestor_falls : (c k : ℕ) → Reaches up c k → rank k ≤ rank c
  ancestor_falls _ _ (itself c) = omega arith
  ancestor_falls _ _ (further c p k is rest) = omega (arith, falls c p is, ancestor_falls p k rest)

  pub nobody_goes_round : (c : ℕ) → GoesRound up c → ⊥
  nobody_goes_round _ (round c p is rest) = omega (arith, falls c p is, ancestor_falls p c rest)
