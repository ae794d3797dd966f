-- How much the children of a node have to offer, by what they keep, and which child has the action of a number.
use Rattle.std.specs.Prelude.{◌≡◌, ◌<◌, ◌≤◌, ◌+◌, ℕ, suc, true, if◌then◌else◌, List, [], ◌∷◌, take, length, Option, Some, None, slice_index_or}
use Rattle.pz_rules.specs.pz_offer.declared.summary.Summary.{Summary}
use Rattle.pz_nodes_shapes.specs.declared.node.Node.{Node}
use Rattle.pz_nodes_shapes.specs.Rose.{Map}
use Rattle.pz_tree_standing.specs.Heads.{Head}
use Rattle.pz_tree_standing.specs.Reached.{reaches}
use Rattle.pz_tree_nodes.specs.declared.node.What.{What}
use Rattle.pz_tree_nodes.specs.declared.kth.Sought.{Sought}

abbrev pub internal : Summary → ℕ
internal s = s.internal

abbrev pub count_of : (Summary → ℕ) → Option (Node What) → ℕ
count_of of None = 0
count_of of (Some n) = of n.what.kept.summary

-- of what stands under a key
abbrev pub count_under : (Summary → ℕ) → Map What → Option ℕ → ℕ
count_under of m None = 0
count_under of m (Some k) = count_of of (m k)

-- of the children that a node reaches, of which the first has number i
abbrev pub counts : (Summary → ℕ) → Map What → Head → ℕ → List (Option ℕ) → ℕ
counts of m h i [] = 0
counts of m h i (kid ∷ kids) = (if reaches h i then count_under of m kid else 0) + counts of m h (suc i) kids

-- the child in which the action of number k is, and which of its actions that is
pub record IsIn (m : Map What) (h : Head) (kids : List (Option ℕ)) (k : ℕ) (x : Sought) : Type 0 where
  pub there : x.number < length kids
  pub active : reaches h x.number ≡ true
  pub within : x.left < count_under internal m (slice_index_or kids x.number None)
  pub before : k ≡ x.left + counts internal m h 0 (take x.number kids)

abbrev pub IsSought : Map What → Head → List (Option ℕ) → ℕ → Option Sought → Type 0
IsSought m h kids k None = counts internal m h 0 kids ≤ k
IsSought m h kids k (Some x) = IsIn m h kids k x
