-- What becomes of the nodes of a term once a part of it has become another.
use Rattle.std.specs.Prelude.{◌≡◌, ◌≤◌, ◌+◌, ◌*◌, ℕ, List, ◌++◌, Option, Some, None}
use Rattle.pz_rules.specs.pz_state.Marks.{Seen}
use Rattle.pz_rules.specs.pz_offer.PlaceOrder.{Place}
use Rattle.pz_nodes_shapes.specs.Rose.{Map, has_option, Stands}
use Rattle.pz_nodes_shapes.specs.Change.{BecomesOption}
use Rattle.pz_rules.specs.Terms.{Term}
use Rattle.pz_rules.specs.Settings.{left_by, Home}
use Rattle.pz_rules.specs.Leaving.{residual}
use Rattle.pz_rules.specs.Places.{MayAct}
use Rattle.pz_rules.specs.Becoming.{Became}
use Rattle.pz_tree_nodes.specs.pz_tree_standing.FrameCounts.{lost_all, gained_all}
use Rattle.pz_tree_nodes.specs.declared.node.What.{What}
use Rattle.pz_tree_nodes.specs.View.{Plant, term_in_option}
use Rattle.pz_tree_nodes.specs.Tended.{TendedOption}
use Rattle.pz_tree_nodes.specs.Planting.{root_of}
use Rattle.pz_rules.specs.Short.{IsShort}
use Rattle.pz_tree_nodes.specs.pz_tree_standing.Soon.{HasRoom}
use Rattle.pz_tree_regrowing.specs.Costs.{on_way, made_all, dropped_all}

-- what a call works on: the nodes, the state, the frames that stand no longer and those that have opened, and the steps
-- that were taken
pub record Work : Type 0 where
  pub map : Map What
  pub state : Seen
  pub lost : List ℕ
  pub gained : List ℕ
  pub steps : ℕ

abbrev pub at_work : Map What → Seen → List ℕ → List ℕ → ℕ → Work
at_work m s lost gained steps = record { map = m; state = s; lost = lost; gained = gained; steps = steps }

abbrev pub StandsOption : Map What → Option Plant → Type 0
StandsOption m None = Unit {0}
StandsOption m (Some p) = Stands m p

-- at most so many steps for each part on the way to the place, made and dropped
abbrev pub steps_for : Home → ℕ → Term → Place → Seen → Term → ℕ
steps_for h f t place s x =
    11 * on_way t place + made_all h f t place (left_by s.held x) + 2 * dropped_all h f t place (left_by s.held x)

-- Of a term in frame f whose clock shows c, the part at the place has become x. Under the key that is handed out
-- stands what stands for what that leaves, in the state that it leaves, and it is tended. All its keys were used
-- by the term before or had no node, and nothing else has changed. The frames that stand no longer come behind
-- those that were handed out before, and so do those that stand in what has opened.
pub record Regrown (h : Home) (f c : ℕ) (p : Option Plant) (place : Place) (x : Term) (out : Option ℕ) (a b : Work) : Type 0 where
  pub plant : Option Plant
  pub under : root_of plant ≡ out
  pub becomes : BecomesOption a.map b.map (has_option p) plant
  pub tended : TendedOption f c plant
  pub means : Became (residual h f (term_in_option c p) place (left_by a.state.held x)) (term_in_option c plant) a.state b.state
  pub lost : b.lost ≡ a.lost ++ lost_all h f (term_in_option c p) place (left_by a.state.held x)
  pub gained : b.gained ≡ a.gained ++ gained_all h f (term_in_option c p) place (left_by a.state.held x)
  pub ticks : b.steps ≤ a.steps + steps_for h f (term_in_option c p) place a.state x

-- No delay that has begun has 2^64 clock units left, in the term or in what its part has become, and there is room for
-- as much on the clock, which shows c.
pub record InTime (c : ℕ) (t x : Term) : Type 0 where
  pub room : HasRoom c
  pub short : IsShort t
  pub part : IsShort x

-- whatever tended nodes stand under the key, for a term of which a part at the place may act
abbrev pub RegrowRule : Home → Option ℕ → ℕ → ℕ → Place → Term → Option ℕ → Work → Work → Type 0
RegrowRule h key f c place x out a b =
    (p : Option Plant)
    → root_of p ≡ key → StandsOption a.map p → TendedOption f c p
    → MayAct (term_in_option c p) place
    → InTime c (term_in_option c p) x
    → Regrown h f c p place x out a b
