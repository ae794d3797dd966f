-- A list of names, as contracts see it.
use Rattle.std.specs.Prelude.{ℕ, List}

-- the names, and how many lists stand above one another there
pub record Listed : Type 0 where
  pub names : List (List ℕ)
  pub height : ℕ
