-- What is done on one level.
use Rattle.std.specs.Prelude.{◌≡◌, ℕ, Option}
use Rattle.pz_nodes_shapes.specs.declared.node.Node.{Node}
use Rattle.pz_nodes_shapes.specs.Rose.{Map, roots, StandAll}
use Rattle.pz_nodes_shapes.specs.Seen.{seen}
use Rattle.pz_rules.specs.Settings.{Context}
use Rattle.pz_rules.specs.Terms.{Term, child, frame_in}
use Rattle.pz_tree_standing.specs.Summaries.{summary_of}
use Rattle.pz_tree_standing.specs.Heads.{What, inner_frame, formed}
use Rattle.pz_tree_standing.specs.Standing.{terms_of, HeadFits, FitAll}
use Rattle.pz_tree_standing.specs.Reached.{GateRight}
use Rattle.pz_tree_standing.specs.Resting.{RestAll}
use Rattle.pz_tree_standing.specs.Right.{RightAll}
use Rattle.pz_tree_standing.specs.Whole.{HasParts, AreWhole}
use Rattle.pz_tree_nodes.specs.declared.node.What as lying
use Rattle.pz_tree_nodes.specs.View.{Plants, head_view, what_view, shapes_of}
use Rattle.pz_tree_nodes.specs.Tended.{AreMarked}
use Rattle.pz_tree_nodes.specs.Seeking.{StandsUnder, IsBareUnder}
use Rattle.pz_tree_nodes.specs.Standing.{RightUnder}

-- the same term, without a shift node on top
abbrev pub PastRule : Map What → Option ℕ → ℕ → Option ℕ → ℕ → Type 0
PastRule m key c below clock = (t : Term) → StandsUnder m key c t → StandsUnder m below clock t × IsBareUnder m below

-- and nodes that are tended and right stay so
abbrev pub PastRightRule : Map lying.What → Option ℕ → ℕ → ℕ → Option ℕ → ℕ → Type 0
PastRightRule m key f c below clock = (a : Context) (t : Term) → RightUnder a m f key c t → RightUnder a m f below clock t × IsBareUnder (seen what_view m) below

-- the child of this number, and its frame
abbrev pub ChildRule : Map What → Option ℕ → ℕ → ℕ → ℕ → Option ℕ → ℕ → ℕ → Type 0
ChildRule m key f c number below frame clock = (t : Term) → StandsUnder m key c t → IsBareUnder m key
    → StandsUnder m below clock (child t number) × (frame ≡ frame_in t f)

-- what stands tended and right for a term has this node on top
pub record HasTop (a : Context) (m : Map lying.What) (f c : ℕ) (n : Node lying.What) (t : Term) : Type 0 where
  pub below : Plants
  pub keys : n.kids ≡ roots below
  pub stand : StandAll m below
  pub parts : HasParts (head_view n.what.head) (shapes_of below)
  pub whole : AreWhole (shapes_of below)
  pub head_fits : HeadFits (head_view n.what.head) c
  pub fit : FitAll (head_view n.what.head) c 0 (shapes_of below)
  pub rest : RestAll (inner_frame (head_view n.what.head) f) (head_view n.what.head) c 0 (shapes_of below)
  pub marked : AreMarked below
  pub kept : n.what.kept.summary ≡ summary_of a c f t
  pub gate : GateRight a f (head_view n.what.head)
  pub right : RightAll a (inner_frame (head_view n.what.head) f) (head_view n.what.head) c 0 (shapes_of below)
  pub means : t ≡ formed (head_view n.what.head) c (terms_of (head_view n.what.head) c 0 (shapes_of below))
