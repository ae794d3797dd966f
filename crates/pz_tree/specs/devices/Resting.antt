-- That nothing wakes in nodes as time passes.
use Rattle.std.specs.Prelude.{ℕ, Option, Some, None}
use Rattle.pz_nodes_shapes.specs.Rose.{Map}
use Rattle.pz_rules.specs.Settings.{Context}
use Rattle.pz_tree_acting.specs.pz_tree_nodes.declared.node.What.{What}
use Rattle.pz_tree_elapsing.specs.Elapsing.{ElapseRule}

-- the nodes under the key, as they are, stand for what the passing leaves
abbrev pub RestRule : Map What → Option ℕ → ℕ → ℕ → ℕ → Type 0
RestRule m None clock old new = Unit {0}
RestRule m (Some key) clock old new = (b : Context) → ElapseRule b m m key 0 clock old new
