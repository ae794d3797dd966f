-- The receive at a place.
use Rattle.std.specs.Prelude.{◌≡◌, ℕ, Option}
use Rattle.pz_nodes_shapes.specs.Rose.{Map}
use Rattle.pz_nodes_shapes.specs.Seen.{seen}
use Rattle.pz_rules.specs.pz_offer.PlaceOrder.{Place}
use Rattle.pz_rules.specs.Acting.{IsReceive}
use Rattle.pz_rules.specs.Laws.{part_of}
use Rattle.pz_rules.specs.Terms as terms
use Rattle.pz_rules.specs.View.{term_view}
use Rattle.pz_rules.specs.declared.term.Term.{Term}
use Rattle.pz_rules.specs.pz_state.declared.state.FrameId.{FrameId}
use Rattle.pz_tree_acting.specs.pz_tree_nodes.declared.node.What.{What}
use Rattle.pz_tree_acting.specs.pz_tree_nodes.View.{what_view}
use Rattle.pz_tree_acting.specs.pz_tree_nodes.Seeking.{frame_at, StandsUnder}

pub record IsFoundReceive (f : ℕ) (t : terms.Term) (place : Place) (frame : FrameId) (part : Term) : Type 0 where
  pub in_frame : frame.0 ≡ frame_at f t place
  pub is_part : term_view part ≡ part_of t place

-- whatever term stands under the root, of which a receive stands at the place
abbrev pub ReceiveRule : Map What → Option ℕ → ℕ → ℕ → Place → FrameId → Term → Type 0
ReceiveRule m root f c place frame part = (t : terms.Term) → StandsUnder (seen what_view m) root c t → IsReceive (part_of t place) → IsFoundReceive f t place frame part
