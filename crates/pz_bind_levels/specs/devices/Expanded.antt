-- What is kept of an expanded system.
use Rattle.std.specs.Prelude.{◌≡◌, ◌<◌, ℕ, List, [], ◌∷◌, length, Option, None, Some, slice_get}
use Rattle.pz_bind_levels.specs.declared.expansion.Standing.{Standing}
use Rattle.pz_bind_levels.specs.declared.expansion.Level.{Level}
use Rattle.pz_bind_levels.specs.declared.expansion.Process.{Process}
use Rattle.pz_bind_levels.specs.declared.expansion.Wire.{Wire}
use Rattle.pz_bind_levels.specs.declared.expansion.Expansion.{Expansion}
use Rattle.pz_bind_levels.specs.Layouts.{Layout, layout}
use Rattle.pz_bind_levels.specs.Places.{Address, Spot, layout_at}
use Rattle.pz_bind_levels.specs.Places as places
use Rattle.pz_bind_levels.specs.Wires.{Channel}
use Rattle.pz_bind_levels.specs.Wires as channels
use Rattle.pz_bind_levels.specs.devices.Tops.{top}

-- as many as these, and each is as it has to be to the one at its place
pub record EachOf {A B : Type 0} (P : A → B → Type 0) (xs : List A) (ys : List B) : Type 0 where
  pub counted : length xs ≡ length ys
  pub each : (n : ℕ) (x : A) (y : B) → slice_get xs n ≡ Some x → slice_get ys n ≡ Some y → P x y

-- a part of one of these levels stands at this place; the system is no part
pub data StandsAt (ss : List Spot) : Option Standing → Address → Type 0 where
  at_top : StandsAt ss None []
  in_level : (s : Standing) (up : Spot) → slice_get ss s.level ≡ Some up → StandsAt ss (Some s) (s.part ∷ up.place)

-- a level knows its class, where it stands, and the wire that each of its channels leads to: the last channel reached
pub record IsLevel (layouts : List Layout) (system : ℕ) (ss : List Spot) (cs : List Channel) (l : Level) (s : Spot) : Type 0 where
  pub class : l.class ≡ s.class
  pub planned : layout_at layouts system s.place ≡ layout layouts s.class
  pub stands : StandsAt ss l.standing s.place
  pub counted : length l.wires ≡ length (layout layouts s.class).outer
  pub wired : (k w : ℕ) → slice_get l.wires k ≡ Some w → slice_get cs w ≡ Some (top layouts system s.place k)

pub record IsProcess (ss : List Spot) (p : Process) (s : Spot) : Type 0 where
  pub class : p.class ≡ s.class
  pub stands : StandsAt ss (Some p.standing) s.place

-- a wire is known by its level and the channel of that level
pub record IsWire (ss : List Spot) (w : Wire) (c : Channel) : Type 0 where
  pub level : Spot
  pub stands : slice_get ss w.level ≡ Some level
  pub place : c.place ≡ level.place
  pub number : w.channel ≡ c.number

-- each level stands behind the one that it stands in
abbrev pub AreInwards : List Level → Type 0
AreInwards ls = (n : ℕ) (l : Level) (s : Standing) → slice_get ls n ≡ Some l → l.standing ≡ Some s → s.level < n

-- these are the levels, the processes and the wires of the system, in order
pub record IsExpansion (layouts : List Layout) (system : ℕ) (e : Expansion) : Type 0 where
  pub levels : EachOf (IsLevel layouts system (places.levels layouts system) (channels.wires layouts system)) e.levels (places.levels layouts system)
  pub processes : EachOf (IsProcess (places.levels layouts system)) e.processes (places.processes layouts system)
  pub wires : EachOf (IsWire (places.levels layouts system)) e.wires (channels.wires layouts system)
  pub inwards : AreInwards e.levels
