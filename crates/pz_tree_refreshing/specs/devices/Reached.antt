-- What the active children of a node add to it, of any sort of sum.
use Rattle.std.specs.Prelude.{◌≡◌, ◌||◌, ℕ, zero, suc, Bool, true, false}
use Rattle.pz_tree_nodes.specs.pz_offer.Summaries.{nothing, join}
use Rattle.pz_tree_nodes.specs.pz_rules.Settings.{Context}
use Rattle.pz_tree_nodes.specs.pz_rules.Terms.{Term, Terms, no_terms, and}
use Rattle.pz_tree_nodes.specs.pz_tree_standing.Summaries.{summary_of}
use Rattle.pz_tree_nodes.specs.pz_tree_standing.Woken.{starts, clocked}
use Rattle.pz_tree_nodes.specs.pz_tree_standing.Heads as heads
use Rattle.pz_tree_nodes.specs.pz_tree_standing.Heads.{Head}
use Rattle.pz_tree_nodes.specs.pz_tree_standing.Reached.{reaches}
use Rattle.pz_tree_nodes.specs.declared.kept.Kept.{Kept}
use Rattle.pz_tree_nodes.specs.pz_tree_standing.Soon.{IsSoon}

abbrev pub added : {V : Type 0} → (V → V → V) → Bool → V → V → V
added plus true v w = plus v w
added plus false v w = w

-- of these children, of which the first has number i, each of the value that g says
abbrev pub reached_sum : {V : Type 0} → V → (V → V → V) → Head → (Term → V) → ℕ → Terms → V
reached_sum nil plus h g i no_terms = nil
reached_sum nil plus h g i (and t ts) = added plus (reaches h i) (g t) (reached_sum nil plus h g (suc i) ts)

-- what they keep, by the clock of the node, which shows c; in their frame f
pub record Says (a : Context) (c f : ℕ) (h : Head) (i : ℕ) (ts : Terms) (k : Kept) : Type 0 where
  pub summary : k.summary ≡ reached_sum nothing join h (summary_of a c f) i ts
  pub starts : k.starts ≡ reached_sum false ◌||◌ h (starts a f) i ts
  pub clocked : k.clocked ≡ reached_sum false ◌||◌ h (clocked a f) i ts
  pub soon : IsSoon c k.summary.due
