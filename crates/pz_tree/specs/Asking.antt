-- What a tree answers when it is asked.
use Rattle.std.specs.Prelude.{◌≡◌, ℕ, Bool, true, false, List, Option, Some, None, Result, Ok, Err}
use Rattle.pz_rules.specs.pz_syntax.Classes.{ModelTree}
use Rattle.pz_rules.specs.pz_copy.Packing.{IsParcelOf}
use Rattle.pz_rules.specs.pz_copy.Parcels.{ParcelView}
use Rattle.pz_rules.specs.pz_offer.PlaceOrder.{Place}
use Rattle.pz_rules.specs.pz_offer.declared.trouble.Trouble.{Trouble}
use Rattle.pz_rules.specs.pz_offer.declared.ends.SendOffer.{SendOffer}
use Rattle.pz_rules.specs.pz_offer.declared.ends.ReceiveOffer.{ReceiveOffer}
use Rattle.pz_rules.specs.pz_offer.declared.ends.Verdict.{Verdict}
use Rattle.pz_rules.specs.pz_offer.declared.ends.Verdict.TheVariants.{Yes, No}
use Rattle.pz_rules.specs.pz_offer.declared.ends.Verdict.TheVariants as verdict
use Rattle.pz_rules.specs.Active.{IsActive}
use Rattle.pz_rules.specs.Acting.{IsReceive}
use Rattle.pz_rules.specs.Laws.{part_of}
use Rattle.pz_rules.specs.Messages.{Judges}
use Rattle.pz_rules.specs.Ports.{IsWire}
use Rattle.pz_rules.specs.Settings.{Context}
use Rattle.pz_rules.specs.Terms.{Term}
use Rattle.pz_rules.specs.devices.Walk.{Noted, Doing, active_sends, active_receives}
use Rattle.pz_rules.specs.devices.Walk as walk
use Rattle.pz_rules.specs.devices.Walks as walks
use Rattle.pz_tree_acting.specs.pz_tree_standing.Woken.{is_clocked}
use Rattle.pz_tree_acting.specs.pz_tree_nodes.Listing.{Each}
use Rattle.pz_tree_offering.specs.Offers.{has_condition}
use Rattle.pz_tree.specs.declared.found.InternalAction.{InternalAction}

-- an internal action, as the rules note it
abbrev pub doing_of : InternalAction → Doing
doing_of x = record { kind = x.kind; pos = x.pos }

abbrev pub noted_view : InternalAction → Noted Doing
noted_view x = record { place = x.place; what = doing_of x }

-- the wire of a port of process i; None where it has none
abbrev pub ReachesWire : ModelTree → ℕ → ℕ → Option ℕ → Type 0
ReachesWire m i port None = (wire : ℕ) → IsWire m i port wire → ⊥
ReachesWire m i port (Some wire) = IsWire m i port wire

-- a send that is noted of a process, over the wire of its port, with the parcel of its values
pub record IsSendOffer (a : Context) (x : SendOffer) (n : Noted walk.ActiveSend) : Type 0 where
  pub place : x.place ≡ n.place
  pub wire : ReachesWire a.setting.model a.process n.what.port x.wire
  pub message : x.message ≡ n.what.message
  pub parcel : IsParcelOf n.what.state n.what.values x.parcel

-- exactly the active sends of a term, in their order
abbrev pub AreSendOffers : Context → Term → List SendOffer → Type 0
AreSendOffers a t xs = Each (IsSendOffer a) xs (active_sends a t)

-- a receive that is noted of a term
pub record IsReceiveOffer (a : Context) (t : Term) (x : ReceiveOffer) (n : Noted walk.ActiveReceive) : Type 0 where
  pub place : x.place ≡ n.place
  pub wire : ReachesWire a.setting.model a.process n.what.port x.wire
  pub message : x.message ≡ n.what.message
  pub count : x.count ≡ n.what.count
  pub conditional : x.conditional ≡ has_condition (part_of t x.place)
  pub clocked : x.uses_clock ≡ is_clocked (part_of t x.place)

abbrev pub AreReceiveOffers : Context → Term → List ReceiveOffer → Type 0
AreReceiveOffers a t xs = Each (IsReceiveOffer a t) xs (active_receives a t)

-- at this place stands an active receive
abbrev pub HasReceive : Context → Term → Place → Type 0
HasReceive a t place = walks.IsThere a t place (λ f. IsReceive)

-- what a receive says to a parcel
abbrev pub said_by : Verdict → Result Bool Trouble
said_by Yes = Ok true
said_by No = Ok false
said_by (verdict.Trouble trouble) = Err trouble

-- the active receive at this place says so
abbrev pub JudgesAt : Context → Term → Place → ParcelView → Verdict → Type 0
JudgesAt a t place parcel v = (frame : ℕ) (part : Term) → IsActive a t place frame part → Judges a frame parcel part (said_by v)
