-- Dropping, in steps.
use Rattle.std.specs.Prelude.{ℕ, List, [], ◌∷◌, drop, Option}
use Rattle.pz_nodes_shapes.specs.Rose.{Map}
use Rattle.pz_tree_standing.specs.Heads as heads
use Rattle.pz_tree_nodes.specs.declared.node.What.{What}
use Rattle.pz_tree_nodes.specs.Dropping.{DropAllRule}

-- the frame of a node, without those below it
abbrev pub frames_here : heads.Head → List ℕ
frames_here (heads.frame number inputs results) = number ∷ []
frames_here h = []

-- the parts before this number are gone: once the others are too, all are
abbrev pub DropsOn : Map What → Map What → List (Option ℕ) → ℕ → List ℕ → List ℕ → ℕ → ℕ → Type 0
DropsOn m0 m keys i before now old spent =
    (n : Map What) (after : List ℕ) (new : ℕ)
    → DropAllRule m n (drop i keys) now after spent new
    → DropAllRule m0 n keys before after old new
