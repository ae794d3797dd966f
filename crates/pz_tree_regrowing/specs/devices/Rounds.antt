-- The part at the place, and the way back from it.
use Rattle.std.specs.Prelude.{◌≡◌, ◌≤◌, ◌+◌, ◌*◌, ℕ, Option, Some, None}
use Rattle.pz_nodes_shapes.specs.Rose.{node, Map, has_option}
use Rattle.pz_nodes_shapes.specs.Change.{Change, no_key, BecomesOption}
use Rattle.pz_rules.specs.pz_offer.PlaceOrder.{Place}
use Rattle.pz_rules.specs.Terms.{Term}
use Rattle.pz_rules.specs.Settings.{Home}
use Rattle.pz_rules.specs.Places.{MayAct}
use Rattle.pz_tree_nodes.specs.pz_tree_standing.Whole.{IsNoShift}
use Rattle.pz_tree_nodes.specs.declared.node.What.{What}
use Rattle.pz_tree_nodes.specs.View.{Plant, head_view, term_in_option}
use Rattle.pz_tree_nodes.specs.Tended.{TendedOption}
use Rattle.pz_tree_nodes.specs.Planting.{nodes_of, root_of, size_of}
use Rattle.pz_tree_regrowing.specs.Regrowing.{Work, StandsOption, Regrown, InTime}

-- the topmost node is no shift node
abbrev pub IsBareOption : Option Plant → Type 0
IsBareOption None = Unit {0}
IsBareOption (Some (node k x ps)) = IsNoShift (head_view x.head)

-- whatever stands under the key is gone
abbrev pub ClearRule : Map What → Map What → Option ℕ → ℕ → ℕ → Type 0
ClearRule m n key old new = (p : Option Plant) → root_of p ≡ key → StandsOption m p → Change m n (has_option p) no_key × (new ≡ old + size_of p)

-- the part is gone, and what stands for the other has come in its place
pub record Replanted (m n : Map What) (c : ℕ) (p : Option Plant) (x : Term) (out : Option ℕ) (old new : ℕ) : Type 0 where
  pub plant : Option Plant
  pub under : root_of plant ≡ out
  pub becomes : BecomesOption m n (has_option p) plant
  pub tended : (f : ℕ) → TendedOption f c plant
  pub means : x ≡ term_in_option c plant
  pub ticks : new ≤ old + (nodes_of x + 2 * nodes_of (term_in_option c p))

abbrev pub ReplantRule : Map What → Map What → Option ℕ → ℕ → Term → Option ℕ → ℕ → ℕ → Type 0
ReplantRule m n key c x out old new =
    (p : Option Plant) (f : ℕ)
    → root_of p ≡ key → StandsOption m p → TendedOption f c p
    → Replanted m n c p x out old new

-- so many steps later
abbrev pub later_by : ℕ → Work → Work
later_by n w = record w { steps = w.steps + n }

-- there is time for a shift node on top
abbrev pub BareRegrowRule : Home → Option ℕ → ℕ → ℕ → Place → Term → Option ℕ → Work → Work → Type 0
BareRegrowRule h key f c place x out a b =
    (p : Option Plant)
    → root_of p ≡ key → StandsOption a.map p → TendedOption f c p → IsBareOption p
    → MayAct (term_in_option c p) place
    → InTime c (term_in_option c p) x
    → Regrown h f c p place x out a (later_by 5 b)
