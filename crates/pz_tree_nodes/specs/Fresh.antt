-- Nodes that are right as far as they are active, and say rightly what a passing of time may wake of them.
use Rattle.std.specs.Prelude.{◌≡◌, ℕ, suc, true}
use Rattle.pz_nodes_shapes.specs.Rose.{node, none, gone, more}
use Rattle.pz_rules.specs.Settings.{Context}
use Rattle.pz_tree_standing.specs.Heads.{Head, inner_clock, inner_frame}
use Rattle.pz_tree_standing.specs.Reached.{reaches}
use Rattle.pz_tree_standing.specs.Right.{Right}
use Rattle.pz_tree_nodes.specs.Keeping.{HasFlags}
use Rattle.pz_tree_nodes.specs.View.{Plant, Plants, head_view, shape_of, term_in}

abbrev mutual
  -- in frame f, where its clock shows c: its flags are right, and so are those of its children as far as they are
  -- active
  pub Flagged : Context → ℕ → ℕ → Plant → Type 0
  Flagged a f c (node k x ps) =
      HasFlags a f (term_in c (node k x ps)) x.kept
      × AllFlagged a (inner_frame (head_view x.head) f) (head_view x.head) c 0 ps

  pub AllFlagged : Context → ℕ → Head → ℕ → ℕ → Plants → Type 0
  AllFlagged a f h c i none = Unit {0}
  AllFlagged a f h c i (gone ps) = AllFlagged a f h c (suc i) ps
  AllFlagged a f h c i (more p ps) =
      (reaches h i ≡ true → Flagged a f (inner_clock h i c) p) × AllFlagged a f h c (suc i) ps

pub record Fresh (a : Context) (f c : ℕ) (p : Plant) : Type 0 where
  pub right : Right a f c (shape_of p)
  pub flagged : Flagged a f c p
