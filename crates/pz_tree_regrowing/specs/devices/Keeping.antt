-- What a node that is put back keeps, from what its children keep.
use Rattle.std.specs.Prelude.{◌+◌, ◌-◌, ◌^◌, ℕ, zero, suc, min, List, [], ◌∷◌, Option, Some, None, option_map}
use Rattle.pz_rules.specs.pz_offer.declared.summary.Summary.{Summary}
use Rattle.pz_nodes_shapes.specs.declared.node.Node.{Node}
use Rattle.pz_nodes_shapes.specs.Rose.{node, none, gone, more, Map}
use Rattle.pz_tree_nodes.specs.pz_tree_standing.Heads as heads
use Rattle.pz_tree_nodes.specs.declared.kept.Kept.{Kept}
use Rattle.pz_tree_nodes.specs.declared.node.What.{What}
use Rattle.pz_tree_nodes.specs.Keeping.{kept_none, kept_done, kept_asked, joined, raised}
use Rattle.pz_tree_nodes.specs.View.{Plants}
use Rattle.pz_tree_nodes.specs.devices.Leaves.{second_alone}

-- what a child keeps; one that is gone is done
abbrev pub kept_at : Plants → ℕ → Kept
kept_at none j = kept_done
kept_at (gone ps) zero = kept_done
kept_at (more (node k x qs) ps) zero = x.kept
kept_at (gone ps) (suc j) = kept_at ps j
kept_at (more p ps) (suc j) = kept_at ps j

abbrev pub kept_all : Plants → Kept
kept_all none = kept_none
kept_all (gone ps) = joined kept_done (kept_all ps)
kept_all (more (node k x qs) ps) = joined x.kept (kept_all ps)

-- seen from a clock that is ahead by so much; the last moment of 128 bits where there is no later one
abbrev pub moved : ℕ → Summary → Summary
moved by s = record s { due = option_map (λ d. min (d + by) (2 ^ 128 - 1)) s.due }

abbrev pub kept_behind : ℕ → Kept → Kept
kept_behind by k = record k { summary = moved by k.summary }

-- of a form that is put back over its children
abbrev pub kept_formed : heads.Head → Plants → Kept
kept_formed (heads.sequence rest) ps = raised (kept_at ps 0)
kept_formed heads.parallel ps = raised (kept_all ps)
kept_formed (heads.frame number inputs results) ps = raised (kept_at ps 0)
kept_formed heads.abort ps = raised (joined (kept_at ps 0) (kept_at ps 1))
kept_formed (heads.idle again s) ps = raised (joined (kept_behind s.behind (kept_at ps 0)) (kept_at ps 1))
kept_formed (heads.handling again s) ps = raised (second_alone (kept_at ps 0) (kept_at ps 1))
kept_formed (heads.shifted s) ps = kept_behind s.behind (kept_at ps 0)
kept_formed h ps = kept_asked

-- statements, delays, alternatives and guards are not
abbrev pub IsPutBack : heads.Head → Type 0
IsPutBack (heads.leaf s) = ⊥
IsPutBack (heads.wait due at) = ⊥
IsPutBack heads.select = ⊥
IsPutBack (heads.guarded e at s) = ⊥
IsPutBack h = Unit {0}

-- what is kept under a key; what is gone is done
abbrev pub kept_of_node : Option (Node What) → Kept
kept_of_node None = kept_done
kept_of_node (Some n) = n.what.kept

abbrev pub kept_in : Map What → Option ℕ → Kept
kept_in m None = kept_done
kept_in m (Some k) = kept_of_node (m k)

abbrev pub kept_in_all : Map What → List (Option ℕ) → Kept
kept_in_all m [] = kept_none
kept_in_all m (k ∷ ks) = joined (kept_in m k) (kept_in_all m ks)
