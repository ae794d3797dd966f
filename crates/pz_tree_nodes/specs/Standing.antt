-- Nodes under a key that are tended, and right as far as they are active.
use Rattle.std.specs.Prelude.{◌≡◌, ℕ, Option, Some, None}
use Rattle.pz_nodes_shapes.specs.Rose.{Map, root, Stands}
use Rattle.pz_rules.specs.Settings.{Context}
use Rattle.pz_rules.specs.Terms.{Term, done}
use Rattle.pz_tree_standing.specs.Right.{Right}
use Rattle.pz_tree_nodes.specs.declared.node.What.{What}
use Rattle.pz_tree_nodes.specs.View.{Plant, shape_of, term_in}
use Rattle.pz_tree_nodes.specs.Tended.{Tended}

-- under the key stands what stands for the term, in frame f, where its clock shows c
pub record StandsRight (a : Context) (m : Map What) (f k c : ℕ) (t : Term) : Type 0 where
  pub plant : Plant
  pub stands : Stands m plant
  pub under : root plant ≡ k
  pub tended : Tended f c plant
  pub right : Right a f c (shape_of plant)
  pub means : t ≡ term_in c plant

-- under the key, if there is one; else the term is done
abbrev pub RightUnder : Context → Map What → ℕ → Option ℕ → ℕ → Term → Type 0
RightUnder a m f None c t = t ≡ done
RightUnder a m f (Some k) c t = StandsRight a m f k c t
