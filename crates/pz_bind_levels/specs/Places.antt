-- What stands where in a system once every cluster is replaced by what it holds.
use Rattle.std.specs.Prelude.{ℕ, zero, suc, ◌-◌, Bool, true, not, List, [], ◌∷◌, ◌++◌, length, slice_get, if◌then◌else◌}
use Rattle.std.specs.Option.{option_map_or}
use Rattle.std.specs.List.{filter}
use Rattle.pz_bind_levels.specs.declared.plan.LevelPart.{LevelPart}
use Rattle.pz_bind_levels.specs.Layouts.{Layout, empty, layout}

-- Where something stands: its own number among the parts of its level, then the number of that level
-- among those of the one around it, and so on outwards. The system itself stands at [].
abbrev pub Address : Type 0
Address = List ℕ

-- something that stands somewhere, with the number of its class
pub record Spot : Type 0 where
  pub place : Address
  pub class : ℕ
  pub is_level : Bool

abbrev pub spot : Address → ℕ → LevelPart → Spot
spot up i p = record { place = i ∷ up; class = p.class; is_level = p.is_level }

abbrev pub the_system : ℕ → Spot
the_system class = record { place = []; class = class; is_level = true }

-- what each of these parts gives, where the first has number i
abbrev pub each_part : {A : Type 0} → (ℕ → LevelPart → List A) → ℕ → List LevelPart → List A
each_part f i [] = []
each_part f i (p ∷ ps) = f i p ++ each_part f (suc i) ps

-- a part, and behind it what stands in it
abbrev pub with_inside : (ℕ → Address → List Spot) → Address → ℕ → LevelPart → List Spot
with_inside inside up i p = spot up i p ∷ (if p.is_level then inside p.class (i ∷ up) else [])

module _ (layouts : List Layout) where
  -- what stands in a level of this class at this place, down to so many levels, in the order of the
  -- text: each cluster before what stands in it
  abbrev pub inside : ℕ → ℕ → Address → List Spot
  inside zero class up = []
  inside (suc levels) class up = each_part (with_inside (inside levels) up) 0 (layout layouts class).parts

  module _ (system : ℕ) where
    -- The system and all that stands in it. Where no class holds itself, fewer levels stand in one
    -- another than there are classes.
    abbrev pub spots : List Spot
    spots = the_system system ∷ inside (length layouts - 1) system []

    -- the system and the clusters
    abbrev pub levels : List Spot
    levels = filter (λ s. s.is_level) spots

    abbrev pub processes : List Spot
    processes = filter (λ s. not s.is_level) spots

    -- the layout of the level at this place
    abbrev pub layout_at : Address → Layout
    layout_at [] = layout layouts system
    layout_at (i ∷ up) = option_map_or (λ p. layout layouts p.class) (slice_get (layout_at up).parts i) empty
