-- The part of a term at a place, in the nodes that stand for the term.
use Rattle.std.specs.Prelude.{◌≡◌, ℕ, [], ◌∷◌, Option, Some, None}
use Rattle.pz_rules.specs.pz_offer.PlaceOrder.{Place}
use Rattle.pz_nodes_shapes.specs.declared.node.Node.{Node}
use Rattle.pz_nodes_shapes.specs.Rose.{Map, root, Stands}
use Rattle.pz_nodes_shapes.specs.Seen.{seen}
use Rattle.pz_rules.specs.Active.{Active}
use Rattle.pz_rules.specs.Laws.{part_of}
use Rattle.pz_rules.specs.Settings.{Context}
use Rattle.pz_rules.specs.Terms.{Term, done, child, frame_in}
use Rattle.pz_tree_standing.specs.Heads.{What}
use Rattle.pz_tree_standing.specs.Meaning.{StandsFor}
use Rattle.pz_tree_standing.specs.Whole.{IsNoShift}
use Rattle.pz_tree_nodes.specs.declared.node.What as lying
use Rattle.pz_tree_nodes.specs.View.{Plant, what_view, term_in}
use Rattle.pz_tree_nodes.specs.Tended.{Tended}

-- the frame of the part at a place, of a term that stands in frame f
abbrev pub frame_at : ℕ → Term → Place → ℕ
frame_at f t [] = f
frame_at f t (i ∷ place) = frame_at (frame_in t f) (child t i) place

-- under the key, if there is one, stands what stands for the term, where the clock shows c; else the term is done
abbrev pub StandsUnder : Map What → Option ℕ → ℕ → Term → Type 0
StandsUnder m None c t = t ≡ done
StandsUnder m (Some k) c t = StandsFor m k c t

-- a node that is there is no shift node
abbrev pub IsBare : Option (Node What) → Type 0
IsBare None = Unit {0}
IsBare (Some n) = IsNoShift n.what.head

abbrev pub IsBareUnder : Map What → Option ℕ → Type 0
IsBareUnder m None = Unit {0}
IsBareUnder m (Some k) = IsBare (m k)

-- of a term that stands in frame f: the part at a place stands under this key, in this frame, where its clock
-- shows so much; its topmost node is no shift node
pub record IsFound (m : Map What) (f : ℕ) (t : Term) (place : Place) (key : Option ℕ) (frame clock : ℕ) : Type 0 where
  pub part : StandsUnder m key clock (part_of t place)
  pub in_frame : frame ≡ frame_at f t place
  pub bare : IsBareUnder m key

-- whatever term stands under the root
abbrev pub SeekRule : Map What → Option ℕ → ℕ → ℕ → Place → Option ℕ → ℕ → ℕ → Type 0
SeekRule m root f c place key frame clock = (t : Term) → StandsUnder m root c t → IsFound m f t place key frame clock

-- an active part is the part at its place, in the frame there
abbrev pub ActiveAtPlace : Type 0
ActiveAtPlace = (a : Context) (f : ℕ) (t : Term) (place : Place) (g : ℕ) (part : Term) → Active a f t place g part
    → (part ≡ part_of t place) × (g ≡ frame_at f t place)

-- tended nodes, as they lie in a map, stand for their term
abbrev pub TendedStand : Type 0
TendedStand = (m : Map lying.What) (f c : ℕ) (p : Plant) → Stands m p → Tended f c p → StandsUnder (seen what_view m) (Some (root p)) c (term_in c p)
