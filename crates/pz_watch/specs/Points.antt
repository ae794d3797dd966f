-- What a watch sees of a run: one point for each action line and each time line of its trace, in order.
use Rattle.std.specs.Prelude.{◌≤◌, ◌<◌, ℕ, List, length, Option, Some, None, slice_get}

-- what a line tells, in the words of the trace
pub data Happening : Type 0 where
  passing : Happening
  internal : (path kind : List ℕ) → Happening
  communication : (message from to : List ℕ) → Happening

-- a line: the clock that it shows, and what it tells
pub record Point : Type 0 where
  pub clock : ℕ
  pub event : Happening

abbrev pub clock_of : Option Point → ℕ
clock_of None = 0
clock_of (Some point) = point.clock

-- the clock of point i, counted from 0
abbrev pub clock_at : List Point → ℕ → ℕ
clock_at points i = clock_of (slice_get points i)

-- clocks never fall; points may have equal clocks
pub record AreInOrder (points : List Point) : Type 0 where
  pub rising : (i k : ℕ) → i ≤ k → k < length points → clock_at points i ≤ clock_at points k
