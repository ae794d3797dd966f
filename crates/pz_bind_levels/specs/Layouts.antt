-- What stands in the levels of a system: the system itself is a level, and so is every cluster in it.
use Rattle.std.specs.Prelude.{◌≡◌, ◌<◌, ℕ, List, [], length, Option, None, Some, slice_get}
use Rattle.std.specs.Option.{unwrap_or}
use Rattle.pz_bind_levels.specs.declared.plan.LevelPart.{LevelPart}

-- What stands in each level of one class. Parts and channels are numbered from 0 in the order of the text.
pub record Layout : Type 0 where
  pub parts : List LevelPart
  -- for each channel, the port of the level itself that is in it
  pub outer : List (Option ℕ)
  -- the channel in which this part's port of this number is
  pub linked : ℕ → ℕ → Option ℕ

abbrev pub empty : Layout
empty = record { parts = []; outer = []; linked = λ part port. None }

-- nothing stands in what is of no class
abbrev pub layout : List Layout → ℕ → Layout
layout layouts class = unwrap_or (slice_get layouts class) empty

-- a port is linked only with a channel that is there
abbrev pub AreLinked : List Layout → Type 0
AreLinked layouts = (class part port k : ℕ) → (layout layouts class).linked part port ≡ Some k → k < length (layout layouts class).outer
