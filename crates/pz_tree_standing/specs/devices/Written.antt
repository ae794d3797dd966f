-- What a node is to keep, from what its children keep.
use Rattle.std.specs.Prelude.{ℕ, zero, suc, ◌-◌}
use Rattle.pz_rules.specs.pz_offer.declared.summary.Summary.{Summary}
use Rattle.pz_rules.specs.pz_offer.Summaries.{nothing, join}
use Rattle.pz_rules.specs.pz_offer.Summaries as summaries
use Rattle.pz_nodes_shapes.specs.Rose.{node, none, gone, more}
use Rattle.pz_rules.specs.Terms as term
use Rattle.pz_rules.specs.Settings.{Context}
use Rattle.pz_rules.specs.devices.Found.{tested}
use Rattle.pz_tree_standing.specs.Summaries.{gated}
use Rattle.pz_tree_standing.specs.devices.Tallies.{own_summary}
use Rattle.pz_tree_standing.specs.Heads.{Head, leaf, wait, sequence, parallel, select, guarded, frame, abort, idle, handling, shifted, Shapes}

-- what a child keeps; nothing where there is none
abbrev pub kept_at : Shapes → ℕ → Summary
kept_at none j = nothing
kept_at (gone ss) zero = nothing
kept_at (more (node k x ts) ss) zero = x.kept
kept_at (gone ss) (suc j) = kept_at ss j
kept_at (more s ss) (suc j) = kept_at ss j

abbrev pub kept_all : Shapes → Summary
kept_all none = nothing
kept_all (gone ss) = join nothing (kept_all ss)
kept_all (more (node k x ts) ss) = join x.kept (kept_all ss)

-- in frame f, where the clock of the node shows c
abbrev pub node_summary : Context → ℕ → ℕ → Head → Shapes → Summary
node_summary a f c (leaf s) ss = own_summary a c f (term.leaf s)
node_summary a f c (wait due at) ss = own_summary a c f (term.wait (due - c) at)
node_summary a f c (sequence rest) ss = kept_at ss 0
node_summary a f c parallel ss = kept_all ss
node_summary a f c select ss = kept_all ss
node_summary a f c (guarded e at s) ss = gated (tested a f at e) (summaries.shifted s.behind (kept_at ss 0))
node_summary a f c (frame number inputs results) ss = kept_at ss 0
node_summary a f c abort ss = join (kept_at ss 0) (kept_at ss 1)
node_summary a f c (idle again s) ss = join (summaries.shifted s.behind (kept_at ss 0)) (kept_at ss 1)
node_summary a f c (handling again s) ss = kept_at ss 1
node_summary a f c (shifted s) ss = summaries.shifted s.behind (kept_at ss 0)
