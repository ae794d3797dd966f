-- What the walk of a term is to be: what it lists is what the rules derive of the active parts, and
-- nothing else, strictly by place.
use Rattle.std.specs.Prelude.{◌≡◌, ℕ, List, All, AllPairs, Contains, Ok}
use Rattle.pz_bind_rules.specs.pz_syntax.declared.tokens.Pos.{Pos}
use Rattle.pz_bind_rules.specs.pz_syntax.declared.names.Id.{Id}
use Rattle.pz_bind_rules.specs.pz_syntax.Expressions.{Part}
use Rattle.pz_bind_rules.specs.pz_syntax.Statements.{send}
use Rattle.pz_bind_rules.specs.pz_value.declared.value.ClassId.{ClassId}
use Rattle.pz_bind_rules.specs.pz_value.declared.value.Value.{Value}
use Rattle.pz_bind_rules.specs.pz_classes_code.declared.slot.Slot.{Slot}
use Rattle.pz_offer.specs.pz_state.States.{StateView}
use Rattle.pz_offer.specs.pz_copy.Parcels.{ParcelView}
use Rattle.pz_offer.specs.pz_copy.Packing.{IsParcelOf}
use Rattle.pz_offer.specs.PlaceOrder.{Place, PlaceBefore}
use Rattle.pz_rules.specs.Terms.{Term, leaf}
use Rattle.pz_rules.specs.Settings.{Context}
use Rattle.pz_rules.specs.Evaluations.{GivesPart}
use Rattle.pz_rules.specs.Active.{IsActive}
use Rattle.pz_rules.specs.InternalActions.{Can}
use Rattle.pz_rules.specs.Messages.{Sends, Receives}
use Rattle.pz_rules.specs.Delays.{Delays}
use Rattle.pz_rules.specs.Asking.{Asks}
use Rattle.pz_rules.specs.devices.Walk.{Noted, ActiveSend, internal_actions, active_sends, active_receives, active_delays, active_troubles}

-- at this place stands an active part, in a frame, of which this holds
pub record IsThere (a : Context) (t : Term) (place : Place) (holds : ℕ → Term → Type 0) : Type 0 where
  pub frame : ℕ
  pub part : Term
  pub active : IsActive a t place frame part
  pub it_holds : holds frame part

-- strictly by place, exactly that of which this holds
pub record Lists {X : Type 0} (a : Context) (t : Term) (holds : X → ℕ → Term → Type 0) (ns : List (Noted X)) : Type 0 where
  pub ordered : AllPairs (λ m n. PlaceBefore m.place n.place) ns
  pub derivable : All (λ n. IsThere a t n.place (holds n.what)) ns
  pub every : (place : Place) (x : X) → IsThere a t place (holds x) → Contains ns (record { place = place; what = x })

-- a send, with the values that its arguments have and the state in which they have them
pub data Offering (a : Context) (f : ℕ) : Term → ActiveSend → Type 0 where
  offering : (at : Pos) (port : ℕ) (name : Id) (args block : Part Slot ClassId) (values : List Value) (s : StateView)
      → GivesPart a f at args (Ok values) s → Offering a f (leaf (send at port name args block)) (record { pos = at; port = port; message = name.name; values = values; state = s })

abbrev pub InternalActionsAreListed : Type 0
InternalActionsAreListed = (a : Context) (t : Term) → Lists a t (λ d f part. Can a f part d.kind d.pos) (internal_actions a t)

abbrev pub SendsAreListed : Type 0
SendsAreListed = (a : Context) (t : Term) → Lists a t (λ x f part. Offering a f part x) (active_sends a t)

-- a send has each parcel of its values, of which there is one
pub record IsPacked (a : Context) (f : ℕ) (part : Term) (x : ActiveSend) (parcel : ParcelView) : Type 0 where
  pub sends : Sends a f part x.pos x.port x.message parcel
  pub packed : IsParcelOf x.state x.values parcel
  pub only : (other : ParcelView) → Sends a f part x.pos x.port x.message other → other ≡ parcel

abbrev pub SendsHaveParcels : Type 0
SendsHaveParcels = (a : Context) (f : ℕ) (part : Term) (x : ActiveSend) → Offering a f part x → (parcel : ParcelView) × IsPacked a f part x parcel

abbrev pub ReceivesAreListed : Type 0
ReceivesAreListed = (a : Context) (t : Term) → Lists a t (λ x f part. Receives part x.pos x.port x.message x.count) (active_receives a t)

abbrev pub DelaysAreListed : Type 0
DelaysAreListed = (a : Context) (t : Term) → Lists a t (λ left f part. Delays a f part left) (active_delays a t)

abbrev pub TroublesAreListed : Type 0
TroublesAreListed = (a : Context) (t : Term) → Lists a t (λ trouble f part. Asks a f part trouble) (active_troubles a t)
