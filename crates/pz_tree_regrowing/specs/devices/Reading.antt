-- What is read of nodes.
use Rattle.std.specs.Prelude.{◌≡◌, ℕ, max, slice_index_or, List, [], ◌∷◌, Option, Some, None}
use Rattle.pz_nodes_shapes.specs.declared.node.Node.{Node}
use Rattle.pz_nodes_shapes.specs.Rose.{Map}
use Rattle.pz_tree_nodes.specs.pz_tree_standing.Heads.{Head, shifted}
use Rattle.pz_tree_nodes.specs.pz_tree_standing.Whole.{Whole}
use Rattle.pz_term_outlines.specs.Capped.{capped}
use Rattle.pz_tree_nodes.specs.declared.node.What.{What}
use Rattle.pz_tree_nodes.specs.View.{Plant, shape_of, term_in_option}
use Rattle.pz_tree_nodes.specs.Tended.{Marked}
use Rattle.pz_tree_nodes.specs.Planting.{root_of}
use Rattle.pz_tree_regrowing.specs.Regrowing.{StandsOption}
use Rattle.pz_tree_regrowing.specs.devices.Rounds.{IsBareOption}

-- the height that a node keeps
abbrev pub high_of : Option (Node What) → ℕ
high_of None = 1
high_of (Some n) = capped n.what.kept.height

-- of what stands under a key; what is gone is done
abbrev pub high_at : Map What → Option ℕ → ℕ
high_at m None = 1
high_at m (Some k) = high_of (m k)

abbrev pub highest : Map What → List (Option ℕ) → ℕ
highest m [] = 0
highest m (k ∷ ks) = max (high_at m k) (highest m ks)

-- each node has the children that its form has, and keeps the height of its term
abbrev pub IsHigh : Option Plant → Type 0
IsHigh None = Unit {0}
IsHigh (Some p) = Whole (shape_of p) × Marked p

-- of a node under a key: what is below it, if it is a shift node, or itself
abbrev pub past_key : Head → List (Option ℕ) → Option ℕ → Option ℕ
past_key (shifted s) keys key = slice_index_or keys 0 None
past_key h keys key = key

-- the same term, where its clock shows d, without a shift node on top
pub record IsPast (m : Map What) (c : ℕ) (p : Option Plant) (below : Option ℕ) : Type 0 where
  pub clock : ℕ
  pub plant : Option Plant
  pub under : root_of plant ≡ below
  pub stands : StandsOption m plant
  pub high : IsHigh plant
  pub bare : IsBareOption plant
  pub means : term_in_option clock plant ≡ term_in_option c p

abbrev pub PastRule : Map What → Option ℕ → Option ℕ → Type 0
PastRule m key below = (c : ℕ) (p : Option Plant) → root_of p ≡ key → StandsOption m p → IsHigh p → IsPast m c p below
