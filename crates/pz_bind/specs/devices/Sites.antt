-- What the code keeps of the levels of a system.
use Rattle.std.specs.Prelude.{◌≡◌, ◌<◌, ℕ, Bool, true, false, List, [], ◌∷◌, ◌++◌, codes, length, Option, Some, None, slice_get, if◌then◌else◌}
use Rattle.pz_bind_rules.specs.pz_syntax.Classes.{ModelTree}
use Rattle.pz_bind_levels.specs.declared.expansion.Standing.{Standing}
use Rattle.pz_bind_levels.specs.declared.expansion.Level.{Level}
use Rattle.pz_bind_levels.specs.Places.{Address}
use Rattle.pz_bind_levels.specs.devices.Expanded.{EachOf}
use Rattle.pz_bind_rules.specs.pz_value.declared.value.Value.TheVariants.{Nil}
use Rattle.pz_bind_rules.specs.Nest.{class_at, instances_in, instances_at, levels}
use Rattle.pz_bind_rules.specs.Names.{path}
use Rattle.pz_bind_rules.specs.Values.{parameter_at}
use Rattle.pz_bind.specs.devices.Bindings.{value_in}
use Rattle.pz_bind.specs.declared.sites.Site.{Site}

abbrev pub is_top : Address → Bool
is_top [] = true
is_top (i ∷ up) = false

-- this is known of the level at this place
pub record IsSite (m : ModelTree) (place : Address) (s : Site) : Type 0 where
  pub class : s.class ≡ class_at m place
  pub top : s.is_system ≡ is_top place
  pub path_is : s.path ≡ path m place
  pub bound : (q : List ℕ) → value_in s.bindings q ≡ parameter_at m place q

pub record IsSystem (class : ℕ) (s : Site) : Type 0 where
  pub class_is : s.class ≡ class
  pub top : s.is_system ≡ true
  pub path_is : s.path ≡ []
  pub bound : (q : List ℕ) → value_in s.bindings q ≡ Nil

-- the path of what has this name in the level
abbrev pub below : Site → List ℕ → List ℕ
below s name = if s.is_system then name else s.path ++ (codes "." ++ name)

-- the level in which something stands is known, and has the part
pub record IsPlaced (m : ModelTree) (sites : List Site) (s : Standing) : Type 0 where
  pub within : s.level < length sites
  pub part : (up : Site) → slice_get sites s.level ≡ Some up → s.part < length (instances_in m up.class)

abbrev pub MayStand : ModelTree → List Site → Option Standing → Type 0
MayStand m sites None = Unit {0}
MayStand m sites (Some s) = IsPlaced m sites s

-- something stands at this place, in one of these levels
pub data StandsIn (m : ModelTree) (sites : List Site) : Option Standing → Address → Type 0 where
  at_top : StandsIn m sites None []
  in_level : (s : Standing) (up : Address) (site : Site) → slice_get sites s.level ≡ Some site → IsSite m up site → StandsIn m sites (Some s) (s.part ∷ up)

-- where a level of the expansion stands
pub data LevelAt (m : ModelTree) (n : ℕ) : Option Standing → Address → Type 0 where
  the_system : LevelAt m n None []
  a_cluster : (s : Standing) (up : Address) → s.level < n → slice_get (levels m) s.level ≡ Some up → s.part < length (instances_at m up) → LevelAt m n (Some s) (s.part ∷ up)

pub record IsLevelAt (m : ModelTree) (n : ℕ) (l : Level) (place : Address) : Type 0 where
  pub class : l.class ≡ class_at m place
  pub stands : LevelAt m n l.standing place

-- these are the levels of the system, in order
pub record AreLevels (m : ModelTree) (ls : List Level) : Type 0 where
  pub counted : length ls ≡ length (levels m)
  pub each : (n : ℕ) (l : Level) (place : Address) → slice_get ls n ≡ Some l → slice_get (levels m) n ≡ Some place → IsLevelAt m n l place

-- this is known of the levels at these places
abbrev pub AreSites : ModelTree → List Address → List Site → Type 0
AreSites m places sites = EachOf (λ s place. IsSite m place s) sites places
