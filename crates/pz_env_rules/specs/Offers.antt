-- The actions that a driven system offers, in their order: those of its processes, and what the
-- environment does by itself and together with them.
use Rattle.std.specs.Prelude.{◌≡◌, ℕ, Bool, true, List, length, All, AllPairs, Contains, Result, Ok}
use Rattle.pz_trace.specs.pz_syntax.declared.tokens.Pos.{Pos}
use Rattle.pz_trace.specs.pz_value.declared.value.Value.{Value}
use Rattle.pz_trace.specs.pz_copy.Parcels.{ParcelView}
use Rattle.pz_trace.specs.pz_offer.declared.end.End.{End}
use Rattle.pz_trace.specs.pz_offer.declared.trouble.Trouble.{Trouble}
use Rattle.pz_trace.specs.pz_rules.declared.action.Kind.{Kind}
use Rattle.pz_trace.specs.pz_rules.declared.action.Kind.TheVariants.{Expire}
use Rattle.pz_trace.specs.pz_rules.declared.action.Action.{Action}
use Rattle.pz_trace.specs.pz_rules.declared.action.Action.TheVariants.{Internal, Comm}
use Rattle.pz_trace.specs.pz_rules.Terms.{Term}
use Rattle.pz_trace.specs.pz_rules.Settings.{Context}
use Rattle.pz_trace.specs.pz_rules.Messages.{Sends, Receives}
use Rattle.pz_trace.specs.pz_rules.Ports.{IsWire}
use Rattle.pz_trace.specs.pz_rules.Offers as system
use Rattle.pz_trace.specs.pz_rules.Offers.{PartAt, IsPair, IsJudged, Before}
use Rattle.pz_env_rules.specs.Environment.{Line, at_line, waits}
use Rattle.pz_env_rules.specs.Joining.{Driving}
use Rattle.pz_env_rules.specs.Driven.{Driven, environment_end, IsWireOf, plain, Gives, Gets}

module _ (g : Driving) (d : Driven) where
  -- a part of a process receives on this wire
  pub record Hears (receiver : End) (wire : ℕ) (message : List ℕ) (count : ℕ) : Type 0 where
    pub seen : Context
    pub frame : ℕ
    pub part : Term
    pub active : PartAt g.setting d.system receiver seen frame part
    pub pos : Pos
    pub port : ℕ
    pub receives : Receives part pos port message count
    pub on : IsWire g.setting.model receiver.process port wire

  -- a part of a process sends on this wire
  pub record Says (sender : End) (wire : ℕ) (message : List ℕ) (parcel : ParcelView) : Type 0 where
    pub seen : Context
    pub frame : ℕ
    pub part : Term
    pub active : PartAt g.setting d.system sender seen frame part
    pub pos : Pos
    pub port : ℕ
    pub sends : Sends seen frame part pos port message parcel
    pub on : IsWire g.setting.model sender.process port wire

  -- a send and a receive that fit, of two processes or of the environment and a process
  pub data IsDrivenPair : ℕ → End → End → List ℕ → ParcelView → Type 0 where
    of_processes : (wire : ℕ) (sender receiver : End) (message : List ℕ) (parcel : ParcelView)
        → IsPair g.setting d.system wire sender receiver message parcel → IsDrivenPair wire sender receiver message parcel
    to_system : (wire : ℕ) (receiver : End) (x : Line) (rest : List Line) (values : List Value)
        → Gives g d x rest values → IsWireOf g x wire → Hears receiver wire x.entry.message (length values)
        → IsDrivenPair wire (environment_end g) receiver x.entry.message (plain g values)
    from_system : (wire : ℕ) (sender : End) (x : Line) (rest : List Line) (parcel : ParcelView)
        → Gets g d x rest (length parcel.values) → IsWireOf g x wire → Says sender wire x.entry.message parcel
        → IsDrivenPair wire sender (environment_end g) x.entry.message parcel

  -- whether the receive of a pair takes the parcel; the environment takes each
  pub data IsDrivenJudged : End → ParcelView → Result Bool Trouble → Type 0 where
    by_process : (receiver : End) (parcel : ParcelView) (verdict : Result Bool Trouble)
        → IsJudged g.setting d.system receiver parcel verdict → IsDrivenJudged receiver parcel verdict
    by_environment : (parcel : ParcelView) → IsDrivenJudged (environment_end g) parcel (Ok true)

  pub data DrivenOffers : Action → Type 0 where
    acts : (at : End) (kind : Kind) (pos : Pos) → system.Offers g.setting d.system (Internal at kind pos) → DrivenOffers (Internal at kind pos)
    -- nothing is left of a wait
    expires : (x : Line) (rest : List Line) → d.environment.doing ≡ waits 0 x rest → DrivenOffers (Internal (environment_end g) Expire (at_line x))
    communicates : (wire : ℕ) (sender receiver : End) (message : List ℕ) (parcel : ParcelView)
        → IsDrivenPair wire sender receiver message parcel → IsDrivenJudged receiver parcel (Ok true) → DrivenOffers (Comm wire sender receiver message parcel)

  -- the one list that is strictly increasing and has exactly what may be done
  pub record IsDrivenOffers (actions : List Action) : Type 0 where
    pub ordered : AllPairs Before actions
    pub derivable : All DrivenOffers actions
    pub every : (a : Action) → DrivenOffers a → Contains actions a
