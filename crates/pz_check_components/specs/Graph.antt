-- Which vertices of a graph are reached from which. A vertex is a number. For each vertex stands
-- where its edges lead.
use Rattle.std.specs.Prelude.{◌≡◌, ◌≤◌, ◌<◌, ◌↔◌, ℕ, List, [], length, slice_get, Contains}
use Rattle.std.specs.Option.{unwrap_or}

-- no edge leaves what is no vertex
abbrev pub targets : List (List ℕ) → ℕ → List ℕ
targets edges v = unwrap_or (slice_get edges v) []

-- from itself on, edge by edge
pub data Reaches (edges : List (List ℕ)) (v : ℕ) : ℕ → Type 0 where
  itself : Reaches edges v v
  further : (u w : ℕ) → Reaches edges v u → Contains (targets edges u) w → Reaches edges v w

abbrev pub number_of : List ℕ → ℕ → ℕ
number_of numbers v = unwrap_or (slice_get numbers v) 0

-- Two vertices have one number just where each is reached from the other. What is reached has no
-- greater number, and the numbers are less than there are vertices.
pub record AreComponents (edges : List (List ℕ)) (numbers : List ℕ) : Type 0 where
  pub sized : length numbers ≡ length edges
  pub bounded : (v : ℕ) → v < length edges → number_of numbers v < length edges
  pub ordered : (v w : ℕ) → v < length edges → w < length edges → Reaches edges v w → number_of numbers w ≤ number_of numbers v
  pub same : (v w : ℕ) → v < length edges → w < length edges → (number_of numbers v ≡ number_of numbers w) ↔ (Reaches edges v w × Reaches edges w v)
