-- The live nodes: those on the way to a guard, a delay that has not begun or a send, if it is active, with the
-- children of each.
use Rattle.std.specs.Prelude.{◌+◌, if◌then◌else◌, ℕ, suc}
use Rattle.pz_nodes_shapes.specs.Rose.{node, none, gone, more, present}
use Rattle.pz_tree_nodes.specs.pz_tree_standing.Heads.{Head}
use Rattle.pz_tree_nodes.specs.pz_tree_standing.Reached.{reaches}
use Rattle.pz_tree_nodes.specs.View.{Plant, Plants, head_view}

abbrev mutual
  -- below the topmost: none where it keeps that nothing is asked
  pub live_below : Plant → ℕ
  live_below (node k x ps) = if x.kept.asks then present ps + live_among (head_view x.head) 0 ps else 0

  -- below those of these children that are active, of which the first has number i
  pub live_among : Head → ℕ → Plants → ℕ
  live_among h i none = 0
  live_among h i (gone ps) = live_among h (suc i) ps
  live_among h i (more p ps) = (if reaches h i then live_below p else 0) + live_among h (suc i) ps

abbrev pub live_nodes : Plant → ℕ
live_nodes p = suc (live_below p)
