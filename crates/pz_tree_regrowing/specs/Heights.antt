-- How high a term becomes once a part of it has become another, by the nodes that stand for it.
use Rattle.std.specs.Prelude.{◌≡◌, ◌≤◌, ◌+◌, ◌*◌, ℕ, Bool, nat_le, Option}
use Rattle.pz_nodes_shapes.specs.Rose.{Map}
use Rattle.pz_rules.specs.pz_offer.PlaceOrder.{Place}
use Rattle.pz_rules.specs.pz_state.States.{StateView}
use Rattle.pz_rules.specs.Terms.{Term, height}
use Rattle.pz_rules.specs.Settings.{left_by, Home}
use Rattle.pz_rules.specs.Leaving.{residual}
use Rattle.pz_rules.specs.Places.{MayAct}
use Rattle.pz_tree_nodes.specs.declared.node.What.{What}
use Rattle.pz_tree_nodes.specs.View.{Plant, term_in_option}
use Rattle.pz_tree_nodes.specs.Tended.{TendedOption}
use Rattle.pz_tree_nodes.specs.Planting.{root_of}
use Rattle.pz_tree_regrowing.specs.Costs.{on_way}
use Rattle.pz_tree_regrowing.specs.Regrowing.{StandsOption}

-- Whatever tended nodes stand under the root, for a term of which a part at the place may act: this is whether what
-- is left of the term, once that part has become x, is no higher than the limit; in whatever frame and state.
abbrev pub LowRule : Home → Map What → Option ℕ → Place → Term → ℕ → Bool → Type 0
LowRule h m root place x limit low =
    (f c g : ℕ) (p : Option Plant) (s : StateView)
    → root_of p ≡ root → StandsOption m p → TendedOption f c p → MayAct (term_in_option c p) place
    → low ≡ nat_le (height (residual h g (term_in_option c p) place (left_by s x)).term) limit

-- at most three steps for each part on the way, and each beside one of them
abbrev pub FewSteps : Map What → Option ℕ → Place → ℕ → ℕ → Type 0
FewSteps m root place old new =
    (f c : ℕ) (p : Option Plant)
    → root_of p ≡ root → StandsOption m p → TendedOption f c p → MayAct (term_in_option c p) place
    → new ≤ old + 3 * on_way (term_in_option c p) place
