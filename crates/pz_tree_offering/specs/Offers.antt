-- The active sends and receives of a term, from the nodes that stand for the term.
use Rattle.std.specs.Prelude.{◌≡◌, ◌≤◌, ℕ, Bool, false, List, Option, is_some}
use Rattle.pz_classes_code.specs.pz_syntax.Statements.{receive}
use Rattle.pz_tree_nodes.specs.pz_copy.Packing.{IsParcelOf}
use Rattle.pz_nodes_shapes.specs.Rose.{Map}
use Rattle.pz_tree_nodes.specs.pz_rules.Laws.{part_of}
use Rattle.pz_tree_nodes.specs.pz_rules.Settings.{Context}
use Rattle.pz_tree_nodes.specs.pz_rules.Terms.{Step, Term, leaf, height}
use Rattle.pz_tree_nodes.specs.pz_rules.devices.Walk as walk
use Rattle.pz_tree_nodes.specs.pz_rules.devices.Walk.{Noted, active_parts, noted, sent_by, received_by}
use Rattle.pz_tree_nodes.specs.pz_tree_standing.Woken.{is_clocked}
use Rattle.pz_tree_nodes.specs.declared.node.What.{What}
use Rattle.pz_tree_nodes.specs.Standing.{RightUnder}
use Rattle.pz_tree_nodes.specs.Listing.{Each}
use Rattle.pz_tree_offering.specs.declared.offers.ActiveSend.{ActiveSend}
use Rattle.pz_tree_offering.specs.declared.offers.ActiveReceive.{ActiveReceive}

-- a send that is noted, with the parcel of its values
pub record IsSend (x : ActiveSend) (n : Noted walk.ActiveSend) : Type 0 where
  pub place : x.place ≡ n.place
  pub port : x.port ≡ n.what.port
  pub message : x.message ≡ n.what.message
  pub parcel : IsParcelOf n.what.state n.what.values x.parcel

-- each of them, in order
abbrev pub AreSends : List ActiveSend → List (Noted walk.ActiveSend) → Type 0
AreSends xs ns = Each IsSend xs ns

-- Whatever right nodes stand under the root, for a term that is no higher than there are levels: these are its active
-- sends, by place. Those of a whole process, which stands in no frame, are the `active_sends` of the rules.
abbrev pub SendsRule : Context → Map What → Option ℕ → ℕ → ℕ → ℕ → List ActiveSend → Type 0
SendsRule a m root f c levels sends = (t : Term) → RightUnder a m f root c t → height t ≤ levels
    → AreSends sends (noted (sent_by a) (active_parts a f t))

-- whether a receive has a condition
abbrev pub statement_has_condition : Step → Bool
statement_has_condition (receive at port name into condition after) = is_some condition
statement_has_condition s = false

abbrev pub has_condition : Term → Bool
has_condition (leaf s) = statement_has_condition s
has_condition t = false

-- a receive that is noted of a term, whether it has a condition, and whether that names the clock
pub record IsReceive (t : Term) (x : ActiveReceive) (n : Noted walk.ActiveReceive) : Type 0 where
  pub place : x.place ≡ n.place
  pub port : x.port ≡ n.what.port
  pub message : x.message ≡ n.what.message
  pub count : x.count ≡ n.what.count
  pub conditional : x.conditional ≡ has_condition (part_of t x.place)
  pub clocked : x.uses_clock ≡ is_clocked (part_of t x.place)

abbrev pub AreReceives : Term → List ActiveReceive → List (Noted walk.ActiveReceive) → Type 0
AreReceives t xs ns = Each (IsReceive t) xs ns

abbrev pub ReceivesRule : Map What → Option ℕ → ℕ → ℕ → ℕ → List ActiveReceive → Type 0
ReceivesRule m root f c levels receives = (a : Context) (t : Term) → RightUnder a m f root c t → height t ≤ levels
    → AreReceives t receives (noted (λ g. received_by) (active_parts a f t))
