-- Parts that are one statement, begun or not.
use Rattle.std.specs.Prelude.{◌≡◌, ℕ, Option}
use Rattle.pz_nodes_shapes.specs.Rose.{Map}
use Rattle.pz_rules.specs.Terms.{Term, Terms, leaf, wait}
use Rattle.pz_tree_regrowing.specs.pz_tree_standing.Heads.{Head, What, formed}
use Rattle.pz_tree_regrowing.specs.pz_tree_standing.Whole.{IsNoShift}
use Rattle.pz_tree_regrowing.specs.pz_tree_nodes.Seeking.{StandsUnder, IsBareUnder}

abbrev pub IsSimple : Term → Type 0
IsSimple (leaf s) = Unit {0}
IsSimple (wait left at) = Unit {0}
IsSimple t = ⊥

-- if the part under the key is one, it is this
abbrev pub PartRule : Map What → Option ℕ → ℕ → Term → Type 0
PartRule m key c t = (u : Term) → StandsUnder m key c u → IsBareUnder m key → IsSimple u → t ≡ u

-- of a node of this form, whatever its children stand for
abbrev pub HeadRule : Head → ℕ → Term → Type 0
HeadRule h c t = (ts : Terms) → IsNoShift h → IsSimple (formed h c ts) → t ≡ formed h c ts
