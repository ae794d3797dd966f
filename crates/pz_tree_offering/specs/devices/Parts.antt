-- What one part sends or receives.
use Rattle.std.specs.Prelude.{◌≡◌, List, [], ◌∷◌, ◌++◌, Some}
use Rattle.pz_tree_nodes.specs.pz_copy.Packing.{IsParcelOf}
use Rattle.pz_nodes_shapes.specs.Rose.{Map}
use Rattle.pz_nodes_shapes.specs.Seen.{seen}
use Rattle.pz_tree_nodes.specs.pz_rules.Settings.{Context}
use Rattle.pz_tree_nodes.specs.pz_rules.Terms.{Term}
use Rattle.pz_tree_nodes.specs.pz_rules.devices.Walk as walk
use Rattle.pz_tree_nodes.specs.pz_rules.devices.Walk.{sent_by, received_by}
use Rattle.pz_tree_nodes.specs.pz_tree_standing.Woken.{is_clocked}
use Rattle.pz_tree_nodes.specs.declared.node.What.{What}
use Rattle.pz_tree_nodes.specs.View.{what_view}
use Rattle.pz_tree_nodes.specs.declared.found.Part.{Part}
use Rattle.pz_tree_nodes.specs.Seeking.{IsBareUnder}
use Rattle.pz_tree_nodes.specs.Standing.{StandsRight}
use Rattle.pz_tree_offering.specs.declared.offers.ActiveSend.{ActiveSend}
use Rattle.pz_tree_offering.specs.declared.offers.ActiveReceive.{ActiveReceive}
use Rattle.pz_tree_offering.specs.Offers.{has_condition}

pub record IsSent (part : Part) (x : ActiveSend) (what : walk.ActiveSend) : Type 0 where
  pub place : x.place ≡ part.place
  pub port : x.port ≡ what.port
  pub message : x.message ≡ what.message
  pub parcel : IsParcelOf what.state what.values x.parcel

-- it is added
pub record AddsSend (part : Part) (what : walk.ActiveSend) (old new : List ActiveSend) : Type 0 where
  pub one : ActiveSend
  pub grown : new ≡ old ++ one ∷ []
  pub sent : IsSent part one what

-- whatever stands under its key and sends
abbrev pub SendRule : Context → Map What → Part → List ActiveSend → List ActiveSend → Type 0
SendRule a m part old new = (t : Term) (what : walk.ActiveSend) → StandsRight a m part.frame.0 part.key part.clock t → IsBareUnder (seen what_view m) (Some part.key)
    → sent_by a part.frame.0 t ≡ Some what → AddsSend part what old new

pub record IsReceived (part : Part) (t : Term) (x : ActiveReceive) (what : walk.ActiveReceive) : Type 0 where
  pub place : x.place ≡ part.place
  pub port : x.port ≡ what.port
  pub message : x.message ≡ what.message
  pub count : x.count ≡ what.count
  pub conditional : x.conditional ≡ has_condition t
  pub clocked : x.uses_clock ≡ is_clocked t

pub record AddsReceive (part : Part) (t : Term) (what : walk.ActiveReceive) (old new : List ActiveReceive) : Type 0 where
  pub one : ActiveReceive
  pub grown : new ≡ old ++ one ∷ []
  pub received : IsReceived part t one what

-- whatever stands under its key and receives
abbrev pub ReceiveRule : Map What → Part → List ActiveReceive → List ActiveReceive → Type 0
ReceiveRule m part old new = (a : Context) (t : Term) (what : walk.ActiveReceive) → StandsRight a m part.frame.0 part.key part.clock t → IsBareUnder (seen what_view m) (Some part.key)
    → received_by t ≡ Some what → AddsReceive part t what old new
