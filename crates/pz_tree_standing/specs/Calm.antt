-- Shapes in which nothing begins as time passes.
use Rattle.std.specs.Prelude.{◌≡◌, ℕ, suc, true}
use Rattle.pz_rules.specs.pz_syntax.Statements.{delay}
use Rattle.pz_nodes_shapes.specs.Rose.{node, none, gone, more}
use Rattle.pz_rules.specs.Settings.{Context}
use Rattle.pz_tree_standing.specs.Heads.{Head, leaf, Shape, Shapes, inner_frame}
use Rattle.pz_tree_standing.specs.Reached.{reaches, GateRight}

-- it is no delay that has not begun
abbrev pub HasBegun : Head → Type 0
HasBegun (leaf (delay at e)) = ⊥
HasBegun h = Unit {0}

abbrev mutual
  -- in frame f, of what is active: each gate is right, and no delay is left that has not begun
  pub Calm : Context → ℕ → Shape → Type 0
  Calm a f (node k x ss) = HasBegun x.head × GateRight a f x.head × CalmAll a (inner_frame x.head f) x.head 0 ss

  pub CalmAll : Context → ℕ → Head → ℕ → Shapes → Type 0
  CalmAll a f h i none = Unit {0}
  CalmAll a f h i (gone ss) = CalmAll a f h (suc i) ss
  CalmAll a f h i (more s ss) = (reaches h i ≡ true → Calm a f s) × CalmAll a f h (suc i) ss
