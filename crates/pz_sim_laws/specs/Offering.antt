-- What processes offer to one another: lists of sends and receives that are those of the rules.
use Rattle.std.specs.Prelude.{◌≡◌, ℕ, true, false, List, length, Option, Some, None, Ok, slice_get}
use Rattle.std.specs.List.{AllZip, flat_map}
use Rattle.pz_tree_standing.specs.pz_syntax.Classes.{ModelTree}
use Rattle.pz_tree_standing.specs.pz_copy.Parcels.{ParcelView}
use Rattle.pz_tree_standing.specs.pz_copy.Packing.{IsParcelOf}
use Rattle.pz_tree_standing.specs.pz_offer.declared.ends.SendOffer.{SendOffer}
use Rattle.pz_tree_standing.specs.pz_offer.declared.ends.ReceiveOffer.{ReceiveOffer}
use Rattle.pz_match.specs.declared.offers.Sender.{Sender}
use Rattle.pz_match.specs.declared.offers.Receiver.{Receiver}
use Rattle.pz_match.specs.Offers.{senders, receivers}
use Rattle.pz_tree_standing.specs.pz_rules.Terms.{Term}
use Rattle.pz_tree_standing.specs.pz_rules.Settings.{Context}
use Rattle.pz_tree_standing.specs.pz_rules.Active.{IsActive}
use Rattle.pz_tree_standing.specs.pz_rules.Messages.{Judges}
use Rattle.pz_tree_standing.specs.pz_rules.Ports.{IsWire}
use Rattle.pz_tree_standing.specs.pz_rules.devices.Walk as walk
use Rattle.pz_tree_standing.specs.pz_rules.devices.Walk.{Noted, active_sends, active_receives}
use Rattle.pz_sim_laws.specs.Members.{Member}

-- the wire that a port of process i reaches, and none where it reaches none
abbrev pub ReachesWire : ModelTree → ℕ → ℕ → Option ℕ → Type 0
ReachesWire m i port None = (wire : ℕ) → IsWire m i port wire → ⊥
ReachesWire m i port (Some wire) = IsWire m i port wire

-- an active send of process i, with the parcel of its values
pub record IsSendOffer (m : ModelTree) (i : ℕ) (x : SendOffer) (n : Noted walk.ActiveSend) : Type 0 where
  pub place : x.place ≡ n.place
  pub wire : ReachesWire m i n.what.port x.wire
  pub message : x.message ≡ n.what.message
  pub parcel : IsParcelOf n.what.state n.what.values x.parcel

-- an active receive in the term of a process; one that is said to have no condition takes each parcel
pub record IsReceiveOffer (a : Context) (t : Term) (x : ReceiveOffer) (n : Noted walk.ActiveReceive) : Type 0 where
  pub place : x.place ≡ n.place
  pub wire : ReachesWire a.setting.model a.process n.what.port x.wire
  pub message : x.message ≡ n.what.message
  pub count : x.count ≡ n.what.count
  pub free : x.conditional ≡ false → (frame : ℕ) (part : Term) (parcel : ParcelView) → IsActive a t n.place frame part → Judges a frame parcel part (Ok true)

-- all that are active, in the order of places

abbrev pub AreSendOffers : Member → List SendOffer → Type 0
AreSendOffers m xs = AllZip (IsSendOffer m.seen.setting.model m.seen.process) xs (active_sends m.seen m.term)

abbrev pub AreReceiveOffers : Member → List ReceiveOffer → Type 0
AreReceiveOffers m xs = AllZip (IsReceiveOffer m.seen m.term) xs (active_receives m.seen m.term)

-- those of process i over wires

pub record SendersOf (i : ℕ) (m : Member) (row : List Sender) : Type 0 where
  pub offers : List SendOffer
  pub are : AreSendOffers m offers
  pub over_wires : row ≡ senders i offers

pub record ReceiversOf (i : ℕ) (m : Member) (row : List Receiver) : Type 0 where
  pub offers : List ReceiveOffer
  pub are : AreReceiveOffers m offers
  pub over_wires : row ≡ receivers i offers

-- a row for each process

pub record AreSenders (ms : List Member) (rows : List (List Sender)) : Type 0 where
  pub all : length rows ≡ length ms
  pub each : (i : ℕ) (m : Member) (row : List Sender) → slice_get ms i ≡ Some m → slice_get rows i ≡ Some row → SendersOf i m row

pub record AreReceivers (ms : List Member) (rows : List (List Receiver)) : Type 0 where
  pub all : length rows ≡ length ms
  pub each : (i : ℕ) (m : Member) (row : List Receiver) → slice_get ms i ≡ Some m → slice_get rows i ≡ Some row → ReceiversOf i m row

-- the rows one behind the other
abbrev pub in_all : {X : Type 0} → List (List X) → List X
in_all rows = flat_map (λ row. row) rows
