-- The actions that a configuration offers, in their order.
use Rattle.std.specs.Prelude.{◌≡◌, ◌≢◌, ◌<◌, ◌⊎◌, ℕ, Bool, true, List, length, All, AllPairs, Contains, Result, Ok}
use Rattle.pz_bind_rules.specs.pz_syntax.declared.tokens.Pos.{Pos}
use Rattle.pz_offer.specs.pz_copy.Parcels.{ParcelView}
use Rattle.pz_offer.specs.declared.end.End.{End}
use Rattle.pz_offer.specs.declared.trouble.Trouble.{Trouble}
use Rattle.pz_offer.specs.PlaceOrder.{EndBefore}
use Rattle.pz_rules.specs.declared.action.Kind.{Kind}
use Rattle.pz_rules.specs.declared.action.Action.{Action}
use Rattle.pz_rules.specs.declared.action.Action.TheVariants.{Internal, Comm}
use Rattle.pz_rules.specs.Terms.{Term}
use Rattle.pz_rules.specs.Settings.{Setting, Process, Context}
use Rattle.pz_rules.specs.Active.{IsActive}
use Rattle.pz_rules.specs.InternalActions.{Can}
use Rattle.pz_rules.specs.Messages.{Sends, Receives, Judges}
use Rattle.pz_rules.specs.Ports.{IsWire}
use Rattle.pz_rules.specs.Configurations.{Config, Stands}

-- an active part of a process: the process as its statements see it, and the frame in which the part
-- stands
pub record PartAt (setting : Setting) (c : Config) (end : End) (a : Context) (frame : ℕ) (part : Term) : Type 0 where
  pub process : Process
  pub stands : Stands setting c end.process process a
  pub active : IsActive a process.term end.place frame part

-- A send and a receive that fit: they stand in two processes, their ports have the same wire, and
-- message and number of values are the same.
pub record IsPair (setting : Setting) (c : Config) (number : ℕ) (sender receiver : End) (message : List ℕ) (parcel : ParcelView) : Type 0 where
  pub sends_at : Context
  pub sends_frame : ℕ
  pub sends_part : Term
  pub sender_active : PartAt setting c sender sends_at sends_frame sends_part
  pub sends_pos : Pos
  pub sends_port : ℕ
  pub sends : Sends sends_at sends_frame sends_part sends_pos sends_port message parcel
  pub receives_at : Context
  pub receives_frame : ℕ
  pub receives_part : Term
  pub receiver_active : PartAt setting c receiver receives_at receives_frame receives_part
  pub receives_pos : Pos
  pub receives_port : ℕ
  pub receives : Receives receives_part receives_pos receives_port message (length parcel.values)
  pub two : sender.process ≢ receiver.process
  pub sender_wire : IsWire setting.model sender.process sends_port number
  pub receiver_wire : IsWire setting.model receiver.process receives_port number

-- whether the receive of a pair takes the parcel
pub record IsJudged (setting : Setting) (c : Config) (receiver : End) (parcel : ParcelView) (verdict : Result Bool Trouble) : Type 0 where
  pub seen : Context
  pub frame : ℕ
  pub part : Term
  pub active : PartAt setting c receiver seen frame part
  pub judges : Judges seen frame parcel part verdict

-- what the rules derive: an internal action of a process, or a communication of two
pub data Offers (setting : Setting) (c : Config) : Action → Type 0 where
  internal : (at : End) (a : Context) (frame : ℕ) (part : Term) (kind : Kind) (pos : Pos)
      → PartAt setting c at a frame part → Can a frame part kind pos → Offers setting c (Internal at kind pos)
  communication : (number : ℕ) (sender receiver : End) (message : List ℕ) (parcel : ParcelView)
      → IsPair setting c number sender receiver message parcel → IsJudged setting c receiver parcel (Ok true) → Offers setting c (Comm number sender receiver message parcel)

-- by wire, then by sender, then by receiver
abbrev pub PairBefore : ℕ → End → End → ℕ → End → End → Type 0
PairBefore w s r w' s' r' = (w < w') ⊎ ((w ≡ w') × (EndBefore s s' ⊎ ((s ≡ s') × EndBefore r r')))

-- internal actions first, by process and then place; then communications
abbrev pub Before : Action → Action → Type 0
Before (Internal a kind pos) (Internal b kind' pos') = EndBefore a b
Before (Internal a kind pos) (Comm w s r message parcel) = Unit {0}
Before (Comm w s r message parcel) (Internal b kind pos) = ⊥
Before (Comm w s r message parcel) (Comm w' s' r' message' parcel') = PairBefore w s r w' s' r'

-- the one list that is strictly increasing and has exactly what the rules derive
pub record IsOffers (setting : Setting) (c : Config) (actions : List Action) : Type 0 where
  pub ordered : AllPairs Before actions
  pub derivable : All (Offers setting c) actions
  pub every : (a : Action) → Offers setting c a → Contains actions a
