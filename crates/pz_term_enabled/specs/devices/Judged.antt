-- What comes of pairs of sends and receives that are judged one after the other.
use Rattle.std.specs.Prelude.{◌≡◌, ℕ, Bool, true, false, List, [], ◌∷◌, ◌++◌, take, Option, Some, None, Result, Ok, Err, slice_get}
use Rattle.pz_rules.specs.pz_copy.Parcels.{ParcelView}
use Rattle.pz_rules.specs.pz_offer.PlaceOrder.{Place}
use Rattle.pz_rules.specs.pz_offer.declared.trouble.Trouble.{Trouble}
use Rattle.pz_rules.specs.declared.action.Action.{Action}
use Rattle.pz_rules.specs.declared.action.Action.TheVariants.{Comm}
use Rattle.pz_rules.specs.Terms.{Term}
use Rattle.pz_rules.specs.Settings.{Setting, Context}
use Rattle.pz_rules.specs.Active.{IsActive}
use Rattle.pz_rules.specs.Messages.{Judges}
use Rattle.pz_rules.specs.Configurations.{Config}
use Rattle.pz_rules.specs.Offers.{IsJudged}
use Rattle.pz_rules.specs.Acting.{IsReceive}
use Rattle.pz_term_matching.specs.declared.ends.Sender.{Sender}
use Rattle.pz_term_matching.specs.declared.ends.Receiver.{Receiver}
use Rattle.pz_term_matching.specs.declared.ends.Pair.{Pair}

-- at this place of a term stands an active receive
pub record HasReceive (t : Term) (place : Place) : Type 0 where
  pub seen : Context
  pub frame : ℕ
  pub part : Term
  pub active : IsActive seen t place frame part
  pub receive : IsReceive part

-- an active part at this place says this to the parcel
abbrev pub JudgesAt : Context → Term → Place → ParcelView → Result Bool Trouble → Type 0
JudgesAt a t place parcel verdict = (frame : ℕ) (part : Term) → IsActive a t place frame part → Judges a frame parcel part verdict

-- of a send and a receive that fit
abbrev pub communication_of : Sender → Receiver → Action
communication_of s r = Comm s.wire s.end r.end s.message s.parcel

module _ (setting : Setting) (c : Config) where
  abbrev pub SaysTo : Sender → Receiver → Result Bool Trouble → Type 0
  SaysTo s r verdict = IsJudged setting c r.end s.parcel verdict

  -- Of one pair: its communication is added, or nothing; or there is the trouble of its condition.
  pub data OfOne (s : Sender) (r : Receiver) (old new : List Action) : Option Trouble → Type 0 where
    taken : SaysTo s r (Ok true) → new ≡ old ++ communication_of s r ∷ [] → OfOne s r old new None
    refused : SaysTo s r (Ok false) → new ≡ old → OfOne s r old new None
    failed : (trouble : Trouble) → SaysTo s r (Err trouble) → OfOne s r old new (Some trouble)

  module _ (senders : List Sender) (receivers : List Receiver) where
    -- the send and the receive of a pair
    pub record Joins (p : Pair) (s : Sender) (r : Receiver) : Type 0 where
      pub sends : slice_get senders p.sender ≡ Some s
      pub receives : slice_get receivers p.receiver ≡ Some r

    -- pairs that are judged in order, and the communications of those that are taken
    pub data AreJudged : List Pair → List Action → Type 0 where
      none : AreJudged [] []
      and_taken : (ps : List Pair) (more : List Action) (p : Pair) (s : Sender) (r : Receiver) → AreJudged ps more → Joins p s r → SaysTo s r (Ok true) → AreJudged (ps ++ p ∷ []) (more ++ communication_of s r ∷ [])
      and_refused : (ps : List Pair) (more : List Action) (p : Pair) (s : Sender) (r : Receiver) → AreJudged ps more → Joins p s r → SaysTo s r (Ok false) → AreJudged (ps ++ p ∷ []) more

    -- all of them are judged, and their communications are added
    pub record AddsAll (ps : List Pair) (old new : List Action) : Type 0 where
      pub more : List Action
      pub added : new ≡ old ++ more
      pub judged : AreJudged ps more

    -- all before the pair at this place are judged, and its condition has a trouble
    pub record FailsAt (ps : List Pair) (trouble : Trouble) : Type 0 where
      pub place : ℕ
      pub pair : Pair
      pub is_pair : slice_get ps place ≡ Some pair
      pub more : List Action
      pub judged : AreJudged (take place ps) more
      pub sender : Sender
      pub receiver : Receiver
      pub joins : Joins pair sender receiver
      pub fails : SaysTo sender receiver (Err trouble)

    abbrev pub OfPairs : List Pair → List Action → List Action → Option Trouble → Type 0
    OfPairs ps old new None = AddsAll ps old new
    OfPairs ps old new (Some trouble) = FailsAt ps trouble
