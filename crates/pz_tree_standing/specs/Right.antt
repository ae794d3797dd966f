-- Shapes whose active nodes keep the right summaries.
use Rattle.std.specs.Prelude.{◌≡◌, ℕ, suc, true, Option, Some, None}
use Rattle.pz_nodes_shapes.specs.Rose.{node, none, gone, more}
use Rattle.pz_rules.specs.Settings.{Context}
use Rattle.pz_tree_standing.specs.Summaries.{summary_of}
use Rattle.pz_tree_standing.specs.Heads.{Head, Shape, Shapes, inner_clock, inner_frame}
use Rattle.pz_tree_standing.specs.Standing.{term_of}
use Rattle.pz_tree_standing.specs.Reached.{reaches, GateRight}

abbrev mutual
  -- in frame f, where its clock shows c: it keeps the summary of its term, its gate is right, and so are its
  -- children as far as they are active
  pub Right : Context → ℕ → ℕ → Shape → Type 0
  Right a f c (node k x ss) = (x.kept ≡ summary_of a c f (term_of c (node k x ss))) × GateRight a f x.head × RightAll a (inner_frame x.head f) x.head c 0 ss

  pub RightAll : Context → ℕ → Head → ℕ → ℕ → Shapes → Type 0
  RightAll a f h c i none = Unit {0}
  RightAll a f h c i (gone ss) = RightAll a f h c (suc i) ss
  RightAll a f h c i (more s ss) = (reaches h i ≡ true → Right a f (inner_clock h i c) s) × RightAll a f h c (suc i) ss

abbrev pub RightOption : Context → ℕ → ℕ → Option Shape → Type 0
RightOption a f c None = Unit {0}
RightOption a f c (Some s) = Right a f c s
