-- Parts that are listed behind others, seen from further out.
use Rattle.std.specs.Prelude.{◌≡◌, ◌≤◌, ◌++◌, ℕ, suc, List, Option, Some}
use Rattle.pz_rules.specs.pz_offer.PlaceOrder.{Place}
use Rattle.pz_rules.specs.pz_offer.declared.summary.Summary.{Summary}
use Rattle.pz_nodes_shapes.specs.declared.node.Node.{Node}
use Rattle.pz_nodes_shapes.specs.Rose.{Map}
use Rattle.pz_nodes_shapes.specs.Seen.{seen}
use Rattle.pz_rules.specs.Laws.{part_of}
use Rattle.pz_rules.specs.Settings.{Context}
use Rattle.pz_rules.specs.Terms.{Term, height}
use Rattle.pz_rules.specs.devices.Walk.{Noted, active_parts, noted, sent_by, received_by}
use Rattle.pz_tree_standing.specs.Heads.{Head, leaf, shifted}
use Rattle.pz_tree_nodes.specs.declared.node.What.{What}
use Rattle.pz_tree_nodes.specs.View.{head_view, what_view}
use Rattle.pz_tree_nodes.specs.declared.found.Part.{Part}
use Rattle.pz_tree_nodes.specs.declared.found.Offering.{Offering}
use Rattle.pz_tree_nodes.specs.declared.found.Offering.TheVariants.{Sends, Receives}
use Rattle.pz_tree_nodes.specs.Seeking.{IsFound}
use Rattle.pz_tree_nodes.specs.Standing.{StandsRight, RightUnder}
use Rattle.pz_tree_nodes.specs.Listing.{Each}
use Rattle.pz_tree_nodes.specs.devices.Levels.{HasTop}

-- how many parts send, or receive
abbrev pub count_in : Offering → Summary → ℕ
count_in Sends s = s.sends
count_in Receives s = s.receives

-- the part of which this is noted in a term, which is itself at a place of the whole
pub record IsBelow {X : Type 0} (a : Context) (m : Map What) (h : ℕ → Term → Option X) (f : ℕ) (t : Term) (place : Place) (x : Part) (n : Noted X) : Type 0 where
  pub at_place : x.place ≡ place ++ n.place
  pub found : IsFound (seen what_view m) f t n.place (Some x.key) x.frame.0 x.clock
  pub right : StandsRight a m x.frame.0 x.key x.clock (part_of t n.place)
  pub has : h x.frame.0 (part_of t n.place) ≡ Some n.what

abbrev pub AreBelow : {X : Type 0} → Context → Map What → (ℕ → Term → Option X) → ℕ → Term → Place → List Part → List (Noted X) → Type 0
AreBelow a m h f t place xs ns = Each (IsBelow a m h f t place) xs ns

-- the parts of which these are noted are added
pub record Adds {X : Type 0} (a : Context) (m : Map What) (h : ℕ → Term → Option X) (f : ℕ) (t : Term) (place : Place) (ns : List (Noted X)) (old new : List Part) : Type 0 where
  pub more : List Part
  pub added : new ≡ old ++ more
  pub are : AreBelow a m h f t place more ns

abbrev pub AddsOffering : Offering → Context → Map What → ℕ → Term → Place → List Part → List Part → Type 0
AddsOffering Sends a m f t place old new = Adds a m (sent_by a) f t place (noted (sent_by a) (active_parts a f t)) old new
AddsOffering Receives a m f t place old new = Adds a m (λ g. received_by) f t place (noted (λ g. received_by) (active_parts a f t)) old new

abbrev pub AddRule : Offering → Map What → Option ℕ → ℕ → ℕ → ℕ → Place → List Part → List Part → Type 0
AddRule offering m key f c levels place old new = (a : Context) (t : Term) → RightUnder a m f key c t → height t ≤ levels
    → AddsOffering offering a m f t place old new

-- it is a part of a term, and has others below it
abbrev pub IsOver : Head → Type 0
IsOver (leaf s) = ⊥
IsOver (shifted s) = ⊥
IsOver h = Unit {0}

-- those below a node
abbrev pub BelowRule : Offering → Map What → Node What → ℕ → ℕ → ℕ → Place → List Part → List Part → Type 0
BelowRule offering m n f c levels place old new = (a : Context) (t : Term) → HasTop a m f c n t → IsOver (head_view n.what.head) → height t ≤ suc levels
    → AddsOffering offering a m f t place old new
