-- What an action makes of a process whose term stands in nodes.
use Rattle.std.specs.Prelude.{◌≡◌, ◌≤◌, ◌+◌, ◌*◌, ℕ, Option, Result, Ok, Err, IfOk}
use Rattle.pz_rules.specs.pz_copy.Parcels.{ParcelView}
use Rattle.pz_nodes_shapes.specs.Rose.{Map, has_option}
use Rattle.pz_nodes_shapes.specs.Change.{BecomesOption}
use Rattle.pz_rules.specs.pz_offer.PlaceOrder.{Place}
use Rattle.pz_rules.specs.pz_offer.declared.trouble.Trouble.{Trouble}
use Rattle.pz_part_actions.specs.Fitting.{FitsHere}
use Rattle.pz_part_actions.specs.Homes.{seen_home}
use Rattle.pz_part_actions.specs.pz_part_opening.declared.home.Home.{Home}
use Rattle.pz_part_actions.specs.pz_part_queries.declared.standpoint.Standpoint.{Standpoint}
use Rattle.pz_rules.specs.Terms.{Term}
use Rattle.pz_rules.specs.Settings.{Context, Process, left_by, home_of}
use Rattle.pz_rules.specs.Steps.{Deed}
use Rattle.pz_rules.specs.pz_state.Marks.{Seen}
use Rattle.pz_rules.specs.pz_state.States.{StateView}
use Rattle.pz_tree_regrowing.specs.pz_tree_standing.Frames.{FramesStand}
use Rattle.pz_tree_regrowing.specs.pz_tree_nodes.declared.node.What.{What}
use Rattle.pz_tree_regrowing.specs.pz_tree_nodes.View.{Plant, term_in_option}
use Rattle.pz_tree_regrowing.specs.pz_tree_nodes.Tended.{TendedOption}
use Rattle.pz_tree_regrowing.specs.pz_tree_nodes.Planting.{root_of}
use Rattle.pz_rules.specs.Short.{IsShort}
use Rattle.pz_tree_regrowing.specs.pz_tree_standing.Soon.{HasRoom}
use Rattle.pz_tree_regrowing.specs.Costs.{on_way, made_all, dropped_all}
use Rattle.pz_tree_regrowing.specs.Regrowing.{StandsOption}
use Rattle.pz_tree_acting.specs.declared.how.How.{How}
use Rattle.pz_tree_acting.specs.Deeds.{able, deed, CanDo, Leaves}

-- Tended nodes under the root, of a process that stands in no frame and whose clock shows c. No delay that has begun has
-- 2^64 clock units left, and there is room for as much on the clock.
pub record Rooted (m : Map What) (root : Option ℕ) (c : ℕ) (p : Option Plant) : Type 0 where
  pub under : root_of p ≡ root
  pub stands : StandsOption m p
  pub tended : TendedOption 0 c p
  pub short : IsShort (term_in_option c p)
  pub room : HasRoom c

-- Such nodes stand under the root, their term fits the class at home, and its part at the place can act so.
pub record MayBeDone (here : Standpoint) (home : Home) (how : How) (m : Map What) (root : Option ℕ) (s : StateView) (place : Place) : Type 0 where
  pub plant : Option Plant
  pub rooted : Rooted m root here.clock plant
  pub parcel : ParcelView
  pub can : CanDo (able how parcel) (seen_home here home s) (term_in_option here.clock plant) place
  pub fits : ∥ FitsHere here home.class (term_in_option here.clock plant) ∥₁

-- at most sixteen steps for each part on the way to the place, with those beside it in a `par`, each that the action makes
-- and each that it drops, where the part becomes x
abbrev pub acting_steps : Context → Term → Place → Process → ℕ
acting_steps a t place x = 16 * (on_way t place + made_all (home_of a) 0 t place x + dropped_all (home_of a) 0 t place x)

-- What an action leaves has come in the place of these nodes: under the key that is handed out stands, tended, what
-- stands for the term that is left, in the state that is left. All its keys were used by the term before or had no
-- node, and nothing else has changed. Each open frame of the state stands in that term, once, and no other stands
-- there; the marks of the state are as before. It took few steps, by what the part became by its deed.
pub record Acted (a : Context) (does : Deed) (m n : Map What) (p : Option Plant) (place : Place) (out : Option ℕ) (old new : Seen) (begun ended : ℕ) : Type 0 where
  pub plant : Option Plant
  pub under : root_of plant ≡ out
  pub becomes : BecomesOption m n (has_option p) plant
  pub tended : TendedOption 0 a.clock plant
  pub leaves : Leaves a does (term_in_option a.clock p) place (Ok (left_by new.held (term_in_option a.clock plant)))
  pub frames : FramesStand (term_in_option a.clock plant) new.held
  pub marks : new.marks ≡ old.marks
  pub ticks : IfOk leaves.left (λ x. ended ≤ begun + acting_steps a (term_in_option a.clock p) place x)

-- that, or the trouble
abbrev pub ActedOr : Context → Deed → Map What → Map What → Option Plant → Place → Result (Option ℕ) Trouble → Seen → Seen → ℕ → ℕ → Type 0
ActedOr a does m n p place (Ok out) old new begun ended = Acted a does m n p place out old new begun ended
ActedOr a does m n p place (Err trouble) old new begun ended = Leaves a does (term_in_option a.clock p) place (Err trouble)

-- whatever tended nodes stand under the root, for a term in which just the open frames stand
abbrev pub ActRule : Standpoint → Home → How → Map What → Map What → Option ℕ → Place → Result (Option ℕ) Trouble → Seen → Seen → ℕ → ℕ → Type 0
ActRule here home how m n root place result old new begun ended =
    (p : Option Plant) (parcel : ParcelView)
    → Rooted m root here.clock p
    → CanDo (able how parcel) (seen_home here home old.held) (term_in_option here.clock p) place
    → FramesStand (term_in_option here.clock p) old.held
    → ActedOr (seen_home here home old.held) (deed how parcel) m n p place result old new begun ended

-- what the rules leave of a process, or the trouble
abbrev pub Answers : Context → Deed → Term → Place → Result (Unit {0}) Trouble → Type 0
Answers a does t place (Ok x) = (q : Process) × Leaves a does t place (Ok q)
Answers a does t place (Err trouble) = Leaves a does t place (Err trouble)

abbrev pub TrialRule : Standpoint → Home → How → Map What → Option ℕ → Place → Result (Unit {0}) Trouble → StateView → Type 0
TrialRule here home how m root place result s =
    (p : Option Plant) (parcel : ParcelView)
    → Rooted m root here.clock p
    → CanDo (able how parcel) (seen_home here home s) (term_in_option here.clock p) place
    → Answers (seen_home here home s) (deed how parcel) (term_in_option here.clock p) place result

-- at most five steps for each part on the way to the place, with those beside it in a `par`
abbrev pub TrialSteps : Standpoint → Home → How → Map What → Option ℕ → Place → StateView → ℕ → ℕ → Type 0
TrialSteps here home how m root place s begun ended =
    (p : Option Plant) (parcel : ParcelView)
    → Rooted m root here.clock p
    → CanDo (able how parcel) (seen_home here home s) (term_in_option here.clock p) place
    → ended ≤ begun + 5 * on_way (term_in_option here.clock p) place
