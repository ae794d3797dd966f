-- What is kept of what stands under a key.
use Rattle.std.specs.Prelude.{◌≡◌, ℕ, Option, Some, None}
use Rattle.pz_nodes_shapes.specs.Rose.{Map, payload}
use Rattle.pz_tree_acting.specs.pz_tree_nodes.declared.kept.Kept.{Kept}
use Rattle.pz_tree_acting.specs.pz_tree_nodes.declared.node.What.{What}
use Rattle.pz_tree_acting.specs.pz_tree_nodes.Keeping.{kept_done}
use Rattle.pz_tree_acting.specs.pz_tree_nodes.View.{Plant}
use Rattle.pz_tree_acting.specs.pz_tree_nodes.Planting.{root_of}
use Rattle.pz_tree_acting.specs.pz_tree_regrowing.Regrowing.{StandsOption}

abbrev pub kept_of : Option Plant → Kept
kept_of None = kept_done
kept_of (Some p) = (payload p).kept

-- whatever stands under it
abbrev pub KeptRule : Map What → Option ℕ → Kept → Type 0
KeptRule m key kept = (p : Option Plant) → root_of p ≡ key → StandsOption m p → kept ≡ kept_of p
