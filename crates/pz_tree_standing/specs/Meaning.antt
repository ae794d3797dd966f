-- What the nodes under a key stand for.
use Rattle.std.specs.Prelude.{◌≡◌, ℕ}
use Rattle.pz_nodes_shapes.specs.Rose.{Map, root, Stands}
use Rattle.pz_rules.specs.Terms.{Term}
use Rattle.pz_tree_standing.specs.Heads.{What, Shape}
use Rattle.pz_tree_standing.specs.Standing.{term_of, Fits}
use Rattle.pz_tree_standing.specs.Whole.{Whole}

-- by a clock that shows c
pub record StandsFor (m : Map What) (k c : ℕ) (t : Term) : Type 0 where
  pub shape : Shape
  pub stands : Stands m shape
  pub under : root shape ≡ k
  pub whole : Whole shape
  pub fits : Fits c shape
  pub means : t ≡ term_of c shape
