-- What the code holds as it goes through a system.
use Rattle.std.specs.Prelude.{◌≡◌, ◌+◌, ℕ, zero, suc, ◌&&◌, not, nat_eq, List, [], ◌∷◌, ◌++◌, Option, Some, map, length, drop, slice_get, if◌then◌else◌}
use Rattle.std.specs.Bool.{MatchBool}
use Rattle.std.specs.Option.{MatchOption, option_and_then, unwrap_or, is_some}
use Rattle.std.specs.List.{filter, flat_map}
use Rattle.indexmap.specs.IndexMap.{get_by}
use Rattle.pz_bind_levels.specs.declared.plan.LevelPart.{LevelPart}
use Rattle.pz_bind_levels.specs.declared.plan.Plan.{Plan}
use Rattle.pz_bind_levels.specs.declared.links.Links.{Links}
use Rattle.pz_bind_levels.specs.declared.expansion.Standing.{Standing}
use Rattle.pz_bind_levels.specs.declared.expansion.Level.{Level}
use Rattle.pz_bind_levels.specs.declared.expansion.Wire.{Wire}
use Rattle.pz_bind_levels.specs.declared.walk.Open.{Open}
use Rattle.pz_bind_levels.specs.declared.walk.Walk.{Walk}
use Rattle.pz_bind_levels.specs.Layouts.{Layout, layout}
use Rattle.pz_bind_levels.specs.Places.{Spot, with_inside, each_part, inside, spots}
use Rattle.pz_bind_levels.specs.Wires.{Channel, wires_of}
use Rattle.pz_bind_levels.specs.devices.Expanded.{EachOf, IsLevel, IsProcess, IsWire, AreInwards}

abbrev pub linked_in : Links → ℕ → ℕ → Option ℕ
linked_in links part port = get_by (λ k. nat_eq part k.part && nat_eq port k.port) links.map

abbrev pub layout_of : Plan → Layout
layout_of p = record { parts = p.parts; outer = p.outer; linked = linked_in p.links }

abbrev pub layouts_of : List Plan → List Layout
layouts_of plans = map layout_of plans

abbrev pub part_at : List Layout → ℕ → ℕ → Option LevelPart
part_at layouts class i = slice_get (layout layouts class).parts i

-- the part that is next in an open level
abbrev pub next_of : List Layout → List Level → Open → Option LevelPart
next_of layouts ls o = option_and_then (λ l. part_at layouts l.class o.part) (slice_get ls o.level)

-- the wire that a port of a part of the level leads to, by what is known of the level
abbrev pub wire_in : List Layout → Level → ℕ → ℕ → Option ℕ
wire_in layouts l part port = option_and_then (slice_get l.wires) ((layout layouts l.class).linked part port)

abbrev pub wire_at : List Layout → List Level → Standing → ℕ → Option ℕ
wire_at layouts ls s port = option_and_then (λ l. wire_in layouts l s.part port) (slice_get ls s.level)

-- the wire that a channel is joined with by this port of its level
abbrev pub wire_above : List Layout → List Level → Option Standing → Option ℕ → Option ℕ
wire_above layouts ls standing port = option_and_then (λ s. option_and_then (wire_at layouts ls s) port) standing

abbrev pub wire : ℕ → ℕ → Wire
wire level k = record { level = level; channel = k }

module _ (above : Option ℕ → Option ℕ) where
  -- the new wires of a level, from its channel k on
  abbrev pub new_wires : ℕ → ℕ → List (Option ℕ) → List Wire
  new_wires level k [] = []
  new_wires level k (port ∷ ports) = (if is_some (above port) then [] else wire level k ∷ []) ++ new_wires level (suc k) ports

  -- the wires of its channels, where there are w before
  abbrev pub own_wires : ℕ → List (Option ℕ) → List ℕ
  own_wires w [] = []
  own_wires w (port ∷ ports) = unwrap_or (above port) w ∷ own_wires (if is_some (above port) then w else suc w) ports

-- the parts of an open level that are still to be visited, with all that stands in them
abbrev pub still_in : List Layout → Spot → Open → List Spot
still_in layouts s o = each_part (with_inside (inside layouts o.below) s.place) o.part (drop o.part (layout layouts s.class).parts)

-- What is still to be visited, where these levels are open: of the last one first.
abbrev pub IsLeft : List Layout → List Spot → List Open → List Spot → Type 0
IsLeft layouts ss [] rest = rest ≡ []
IsLeft layouts ss (o ∷ os) rest = (s : Spot) × (later : List Spot) × (slice_get ss o.level ≡ Some s) × IsLeft layouts ss os later × (rest ≡ later ++ still_in layouts s o)

abbrev pub levels_among : List Spot → List Spot
levels_among visited = filter (λ s. s.is_level) visited

abbrev pub processes_among : List Spot → List Spot
processes_among visited = filter (λ s. not s.is_level) visited

abbrev pub wires_among : List Layout → ℕ → List Spot → List Channel
wires_among layouts system visited = flat_map (wires_of layouts system) (levels_among visited)

-- the level is opened, unless there are too many around it
abbrev pub opened : ℕ → ℕ → List Open
opened level zero = []
opened level (suc below) = record { level = level; part = 0; below = below } ∷ []

-- a level of this class is entered, where these levels are open
pub record Enters (layouts : List Layout) (class : ℕ) (standing : Option Standing) (below : ℕ) (opens : List Open) (old new : Walk) : Type 0 where
  pub levels : new.levels ≡ old.levels ++ record { class = class; standing = standing; wires = own_wires (wire_above layouts old.levels standing) (length old.wires) (layout layouts class).outer } ∷ []
  pub processes : new.processes ≡ old.processes
  pub wires : new.wires ≡ old.wires ++ new_wires (wire_above layouts old.levels standing) (length old.levels) 0 (layout layouts class).outer
  pub opened : new.path.items ≡ opens ++ opened (length old.levels) below

-- a process of this class is met
pub record Meets (class : ℕ) (standing : Standing) (opens : List Open) (old new : Walk) : Type 0 where
  pub levels : new.levels ≡ old.levels
  pub processes : new.processes ≡ old.processes ++ record { class = class; standing = standing } ∷ []
  pub wires : new.wires ≡ old.wires
  pub opened : new.path.items ≡ opens

abbrev pub Visits : List Layout → LevelPart → Standing → ℕ → List Open → Walk → Walk → Type 0
Visits layouts p standing below opens old new = MatchBool p.is_level (Enters layouts p.class (Some standing) below opens old new) (Meets p.class standing opens old new)

abbrev pub standing_of : Open → Standing
standing_of o = record { level = o.level; part = o.part }

abbrev pub after : Open → Open
after o = record { level = o.level; part = o.part + 1; below = o.below }

-- the next part of a level that was the last open one is visited, if there is one
abbrev pub Steps : List Layout → Open → Walk → Walk → Type 0
Steps layouts o old new = MatchOption (next_of layouts old.levels o) (new ≡ old) (λ p. Visits layouts p (standing_of o) o.below (old.path.items ++ after o ∷ []) old new)

-- what is kept of what was visited
pub record IsKept (layouts : List Layout) (system : ℕ) (visited : List Spot) (w : Walk) : Type 0 where
  pub levels : EachOf (IsLevel layouts system (levels_among visited) (wires_among layouts system visited)) w.levels (levels_among visited)
  pub processes : EachOf (IsProcess (levels_among visited)) w.processes (processes_among visited)
  pub wires : EachOf (IsWire (levels_among visited)) w.wires (wires_among layouts system visited)
  pub inwards : AreInwards w.levels

-- these are still to be visited
pub record IsWalk (layouts : List Layout) (system : ℕ) (visited rest : List Spot) (w : Walk) : Type 0 where
  pub kept : IsKept layouts system visited w
  pub left : IsLeft layouts (levels_among visited) w.path.items rest
  pub whole : spots layouts system ≡ visited ++ rest

-- the walk has come somewhere
pub record Goes (layouts : List Layout) (system : ℕ) (w : Walk) : Type 0 where
  pub visited : List Spot
  pub rest : List Spot
  pub walk : IsWalk layouts system visited rest w
