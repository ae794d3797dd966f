-- The outline of a term once a part of it has become another, level by level.
use Rattle.std.specs.Prelude.{◌≡◌, ◌≤◌, ◌+◌, ◌*◌, ℕ, List, Option}
use Rattle.pz_clock.specs.Shifts.{ShiftView}
use Rattle.pz_nodes_shapes.specs.Rose.{Map, roots, StandAll}
use Rattle.pz_rules.specs.pz_offer.PlaceOrder.{Place}
use Rattle.pz_rules.specs.Terms.{Step}
use Rattle.pz_rules.specs.Settings.{Home}
use Rattle.pz_rules.specs.Places.{MayActIn, MayAct}
use Rattle.pz_term_outlines.specs.declared.outline.Outline.{Outline}
use Rattle.pz_term_outlines.specs.Outlines.{IsRound, IsLeft}
use Rattle.pz_tree_nodes.specs.pz_tree_standing.Heads.{Head, idle, handling, formed}
use Rattle.pz_tree_nodes.specs.pz_tree_standing.Whole.{IsNoShift, HasParts, AreWhole}
use Rattle.pz_tree_nodes.specs.declared.node.What.{What}
use Rattle.pz_tree_nodes.specs.View.{Plant, Plants, shapes_of, term_in_option}
use Rattle.pz_tree_nodes.specs.Tended.{AreMarked}
use Rattle.pz_tree_nodes.specs.Planting.{root_of}
use Rattle.pz_tree_regrowing.specs.Costs.{beside, on_way}
use Rattle.pz_tree_regrowing.specs.Regrowing.{StandsOption}
use Rattle.pz_tree_regrowing.specs.devices.Levels.{kid_terms}
use Rattle.pz_tree_regrowing.specs.devices.Rounds.{IsBareOption}
use Rattle.pz_tree_regrowing.specs.devices.Reading.{IsHigh}

-- ------------------------------------------------------------ on one level

-- children of a node of this form, under these keys
pub record AreKids (m : Map What) (h : Head) (keys : List (Option ℕ)) (ps : Plants) : Type 0 where
  pub stand : StandAll m ps
  pub under : roots ps ≡ keys
  pub parts : HasParts h (shapes_of ps)
  pub whole : AreWhole (shapes_of ps)
  pub marked : AreMarked ps

-- child i has become one of the first outline, and the whole one of the second
pub record Rounded (home : Home) (h : Head) (c : ℕ) (ps : Plants) (i : ℕ) (left result : Outline) (old new : ℕ) : Type 0 where
  pub round : IsRound home left (formed h c (kid_terms h c ps)) i result
  pub ticks : new ≤ old + (1 + beside (formed h c (kid_terms h c ps)) i)

abbrev pub HomeRoundRule : Home → Map What → Head → List (Option ℕ) → ℕ → Outline → Outline → ℕ → ℕ → Type 0
HomeRoundRule home m h keys i left result old new =
    (c : ℕ) (ps : Plants) → AreKids m h keys ps → IsNoShift h → MayActIn (formed h c (kid_terms h c ps)) i
    → Rounded home h c ps i left result old new

-- where nothing opens
abbrev pub RoundRule : Map What → Head → List (Option ℕ) → ℕ → Outline → Outline → ℕ → ℕ → Type 0
RoundRule m h keys i left result old new = (home : Home) → HomeRoundRule home m h keys i left result old new

-- the second part of an interrupt, whether it is at work or not
abbrev pub SecondRule : Home → Map What → Step → List (Option ℕ) → Outline → Outline → ℕ → ℕ → Type 0
SecondRule home m again keys left result old new =
    (shift : ShiftView)
    → HomeRoundRule home m (idle again shift) keys 1 left result old new
    × HomeRoundRule home m (handling again shift) keys 1 left result old new

-- ------------------------------------------------------------ on all levels

pub record Outlined (home : Home) (c : ℕ) (p : Option Plant) (place : Place) (part result : Outline) (spare old new : ℕ) : Type 0 where
  pub left : IsLeft home part (term_in_option c p) place result
  pub ticks : new + spare ≤ old + 3 * on_way (term_in_option c p) place

abbrev pub OutlineRule : Home → Map What → Option ℕ → Place → Outline → Outline → ℕ → ℕ → Type 0
OutlineRule home m key place part result old new =
    (c : ℕ) (p : Option Plant) → root_of p ≡ key → StandsOption m p → IsHigh p → MayAct (term_in_option c p) place
    → Outlined home c p place part result 0 old new

-- there is time for a shift node on top
abbrev pub BareOutlineRule : Home → Map What → Option ℕ → Place → Outline → Outline → ℕ → ℕ → Type 0
BareOutlineRule home m key place part result old new =
    (c : ℕ) (p : Option Plant) → root_of p ≡ key → StandsOption m p → IsHigh p → IsBareOption p → MayAct (term_in_option c p) place
    → Outlined home c p place part result 1 old new
