-- The classes that parents lead to.
use Rattle.std.specs.Prelude.{◌≡◌, ℕ, Option, Some}

-- by the parent of c, its parent and so on one comes to k
pub data Reaches (up : ℕ → Option ℕ) : ℕ → ℕ → Type 0 where
  itself : (c : ℕ) → Reaches up c c
  further : (c p k : ℕ) → up c ≡ Some p → Reaches up p k → Reaches up c k

-- c is among the ancestors of its own parent
pub data GoesRound (up : ℕ → Option ℕ) : ℕ → Type 0 where
  round : (c p : ℕ) → up c ≡ Some p → Reaches up p c → GoesRound up c
