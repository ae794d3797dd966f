-- In which order the totals of classes can be counted.
use Rattle.std.specs.Prelude.{◌≡◌, ◌≤◌, ◌<◌, ℕ, List, length, Some, slice_get, Contains}
use Rattle.pz_check_components.specs.Graph.{Reaches, number_of}
use Rattle.pz_check_size.specs.declared.nodes.Held.{Held}
use Rattle.pz_check_size.specs.declared.nodes.Node.{Node}
use Rattle.pz_check_size.specs.declared.totals.Totals.{Totals}
use Rattle.pz_check_size.specs.devices.Nodes.{held_by}
use Rattle.pz_check_size.specs.devices.Levels.{total_in, level}
use Rattle.pz_check_size.specs.devices.LeadingBack.{edges}

-- no class is reached from one that stands in it
abbrev pub NoneHoldsItself : List Node → Type 0
NoneHoldsItself nodes = (c : ℕ) (h : Held) → Contains (held_by nodes c) h → Reaches (edges nodes) h.class c → ⊥

-- each has a number of its own, and the numbers are less than there are
pub record IsNumbering (numbers : List ℕ) : Type 0 where
  pub bounded : (c : ℕ) → c < length numbers → number_of numbers c < length numbers
  pub apart : (c d : ℕ) → c < length numbers → d < length numbers → number_of numbers c ≡ number_of numbers d → c ≡ d

-- the first so many stand at the places that are their numbers
pub record ArePlaced (numbers order : List ℕ) (count : ℕ) : Type 0 where
  pub sized : length order ≡ length numbers
  pub placed : (c : ℕ) → c < count → slice_get order (number_of numbers c) ≡ Some c

-- each class stands there, after all that stand in it
pub record IsCountingOrder (nodes : List Node) (order : List ℕ) : Type 0 where
  pub sized : length order ≡ length nodes
  pub within : (i c : ℕ) → slice_get order i ≡ Some c → c < length nodes
  pub each : (c : ℕ) → c < length nodes → (i : ℕ) × (slice_get order i ≡ Some c)
  pub after : (i c : ℕ) (h : Held) → slice_get order i ≡ Some c → Contains (held_by nodes c) h → h.class < length nodes → (j : ℕ) × (j < i) × (slice_get order j ≡ Some h.class)

-- the totals of the first so many classes of the order are those of so many levels, and of all later
-- ones
pub record AreCounted (nodes : List Node) (order : List ℕ) (totals : List Totals) (count : ℕ) : Type 0 where
  pub sized : length totals ≡ length nodes
  pub counted : (i c l : ℕ) → slice_get order i ≡ Some c → i < count → count ≤ l → total_in totals c ≡ total_in (level nodes l) c
