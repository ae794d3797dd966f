-- Nodes that are sound, and each of which says rightly of its term what no clock decides.
use Rattle.std.specs.Prelude.{ℕ, Option, Some, None}
use Rattle.pz_nodes_shapes.specs.Rose.{node, none, gone, more}
use Rattle.pz_tree_standing.specs.Sound.{Sound}
use Rattle.pz_tree_nodes.specs.Keeping.{IsMarked}
use Rattle.pz_tree_nodes.specs.View.{Plant, Plants, shape_of, term_in}

abbrev mutual
  -- at every clock
  pub Marked : Plant → Type 0
  Marked (node k x ps) = ((c : ℕ) → IsMarked (term_in c (node k x ps)) x.kept) × AreMarked ps

  pub AreMarked : Plants → Type 0
  AreMarked none = Unit {0}
  AreMarked (gone ps) = AreMarked ps
  AreMarked (more p ps) = Marked p × AreMarked ps

-- in frame f, where its clock shows c
pub record Tended (f c : ℕ) (p : Plant) : Type 0 where
  pub sound : Sound f c (shape_of p)
  pub marked : Marked p

abbrev pub TendedOption : ℕ → ℕ → Option Plant → Type 0
TendedOption f c None = Unit {0}
TendedOption f c (Some p) = Tended f c p

abbrev pub AreTended : ℕ → ℕ → Plants → Type 0
AreTended f c none = Unit {0}
AreTended f c (gone ps) = AreTended f c ps
AreTended f c (more p ps) = Tended f c p × AreTended f c ps
