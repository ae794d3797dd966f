-- Offers over the wires of their ports, as the net says.
use Rattle.std.specs.Prelude.{◌≡◌, ℕ, List, Option, Some, slice_get, MatchOption}
use Rattle.pz_rules.specs.pz_syntax.Classes.{ModelTree}
use Rattle.pz_rules.specs.pz_classes_rules.Members.{ports, spelled}
use Rattle.pz_bind_levels.specs.Places.{Address}
use Rattle.pz_rules.specs.pz_bind_rules.Nest.{processes, class_at}
use Rattle.pz_rules.specs.pz_bind_rules.Connections.{end, IsInNone}
use Rattle.pz_rules.specs.pz_bind_rules.Wires.{HasWire}
use Rattle.pz_bind.specs.devices.Nets.{IsNet}
use Rattle.pz_bind.specs.declared.net.Net.{Net}
use Rattle.pz_rules.specs.pz_offer.declared.ends.SendOffer.{SendOffer}
use Rattle.pz_rules.specs.pz_offer.declared.ends.ReceiveOffer.{ReceiveOffer}
use Rattle.pz_tree_acting.specs.pz_tree_nodes.Listing.{Each}
use Rattle.pz_tree_offering.specs.declared.offers.ActiveSend.{ActiveSend}
use Rattle.pz_tree_offering.specs.declared.offers.ActiveReceive.{ActiveReceive}

-- of the port of this number of process i: the channel to which its name belongs
abbrev pub WireRule : Net → ℕ → ℕ → Option ℕ → Type 0
WireRule net i port wire = (m : ModelTree) (place : Address) (name : List ℕ) → IsNet m net → slice_get (processes m) i ≡ Some place
    → slice_get (spelled (ports m (class_at m place))) port ≡ Some name
    → MatchOption wire (IsInNone m (end place name)) (HasWire m (end place name))

pub record IsSentOver (net : Net) (i : ℕ) (x : SendOffer) (y : ActiveSend) : Type 0 where
  pub place : x.place ≡ y.place
  pub wire : WireRule net i y.port x.wire
  pub message : x.message ≡ y.message
  pub parcel : x.parcel ≡ y.parcel

abbrev pub AreSentOver : Net → ℕ → List SendOffer → List ActiveSend → Type 0
AreSentOver net i xs ys = Each (IsSentOver net i) xs ys

pub record IsReceivedOver (net : Net) (i : ℕ) (x : ReceiveOffer) (y : ActiveReceive) : Type 0 where
  pub place : x.place ≡ y.place
  pub wire : WireRule net i y.port x.wire
  pub message : x.message ≡ y.message
  pub count : x.count ≡ y.count
  pub conditional : x.conditional ≡ y.conditional
  pub clocked : x.uses_clock ≡ y.uses_clock

abbrev pub AreReceivedOver : Net → ℕ → List ReceiveOffer → List ActiveReceive → Type 0
AreReceivedOver net i xs ys = Each (IsReceivedOver net i) xs ys
