-- What comes within 2^64 clock units, and that there is a moment for it.
use Rattle.std.specs.Prelude.{◌<◌, ◌≤◌, ◌+◌, ◌^◌, ℕ, Option, Some, None}

-- so much after what the clock shows is a moment of 128 bits
abbrev pub HasRoom : ℕ → Type 0
HasRoom c = c + 2 ^ 64 ≤ 2 ^ 128

-- it comes less than 2^64 clock units after this moment, if there is one
abbrev pub IsSoon : ℕ → Option ℕ → Type 0
IsSoon c None = Unit {0}
IsSoon c (Some due) = due < c + 2 ^ 64
