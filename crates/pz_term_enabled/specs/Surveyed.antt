-- What the active parts of all processes can do and are asked, and what is left of their delays.
use Rattle.std.specs.Prelude.{ℕ, Bool, true, false, List, All, AllPairs, Contains, Option, Some, None}
use Rattle.pz_classes_code.specs.pz_syntax.declared.tokens.Pos.{Pos}
use Rattle.pz_rules.specs.pz_offer.declared.end.End.{End}
use Rattle.pz_rules.specs.pz_offer.declared.trouble.Trouble.{Trouble}
use Rattle.pz_rules.specs.pz_offer.PlaceOrder.{EndBefore}
use Rattle.pz_rules.specs.declared.action.Action.{Action}
use Rattle.pz_rules.specs.declared.action.Action.TheVariants.{Internal, Comm}
use Rattle.pz_rules.specs.Terms.{Term}
use Rattle.pz_rules.specs.Settings.{Setting, Context}
use Rattle.pz_rules.specs.Messages.{Sends, Receives}
use Rattle.pz_rules.specs.Ports.{IsWire}
use Rattle.pz_rules.specs.Configurations.{Config}
use Rattle.pz_rules.specs.Offers.{PartAt, Offers, Before}
use Rattle.pz_rules.specs.Moments.{Troubles, part, IsLeft, IsLeast, AllDone}
use Rattle.pz_rules.specs.Short.{TimesAreShort}
use Rattle.pz_term_matching.specs.declared.ends.Sender.{Sender}
use Rattle.pz_term_matching.specs.declared.ends.Receiver.{Receiver}
use Rattle.pz_term_enabled.specs.declared.findings.Survey.{Survey}

abbrev pub IsInternal : Action → Type 0
IsInternal (Internal at kind pos) = Unit {0}
IsInternal (Comm wire sender receiver message parcel) = ⊥

module _ (setting : Setting) (c : Config) where
  -- the internal actions that are offered, strictly in their order
  pub record AreInternal (actions : List Action) : Type 0 where
    pub ordered : AllPairs Before actions
    pub derivable : All (λ a. IsInternal a × Offers setting c a) actions
    pub every : (a : Action) → IsInternal a → Offers setting c a → Contains actions a

  -- an active send over a wire, with the parcel that it would hand over
  pub record IsSender (s : Sender) : Type 0 where
    pub seen : Context
    pub frame : ℕ
    pub part : Term
    pub active : PartAt setting c s.end seen frame part
    pub pos : Pos
    pub port : ℕ
    pub sends : Sends seen frame part pos port s.message s.parcel
    pub over : IsWire setting.model s.end.process port s.wire

  -- all of them, strictly by process and then place
  pub record AreSenders (senders : List Sender) : Type 0 where
    pub ordered : AllPairs (λ s t. EndBefore s.end t.end) senders
    pub derivable : All IsSender senders
    pub every : (s : Sender) → IsSender s → Contains senders s

  -- an active receive over a wire, of so many values
  pub record IsReceiver (r : Receiver) : Type 0 where
    pub seen : Context
    pub frame : ℕ
    pub part : Term
    pub active : PartAt setting c r.end seen frame part
    pub pos : Pos
    pub port : ℕ
    pub receives : Receives part pos port r.message r.count
    pub over : IsWire setting.model r.end.process port r.wire

  pub record AreReceivers (receivers : List Receiver) : Type 0 where
    pub ordered : AllPairs (λ r t. EndBefore r.end t.end) receivers
    pub derivable : All IsReceiver receivers
    pub every : (r : Receiver) → IsReceiver r → Contains receivers r

  -- the least that is left of an active delay, if there is one
  abbrev pub IsLeastLeft : Option ℕ → Type 0
  IsLeastLeft None = (left : ℕ) → IsLeft setting c left → ⊥
  IsLeastLeft (Some d) = IsLeast setting c d

  -- the trouble of what a part is asked, before which none comes
  pub record IsFirstAsked (trouble : Trouble) : Type 0 where
    pub at : End
    pub occurs : Troubles setting c (part at) trouble
    pub first : (other : End) (t : Trouble) → Troubles setting c (part other) t → EndBefore other at → ⊥

  abbrev pub IsAsked : Option Trouble → Type 0
  IsAsked None = (at : End) (t : Trouble) → Troubles setting c (part at) t → ⊥
  IsAsked (Some trouble) = IsFirstAsked trouble

  abbrev pub TellsDone : Bool → Type 0
  TellsDone true = AllDone c
  TellsDone false = AllDone c → ⊥

  pub record IsSurveyed (s : Survey) : Type 0 where
    pub internal : AreInternal s.internal.items
    pub senders : AreSenders s.senders.items
    pub receivers : AreReceivers s.receivers.items
    pub least : IsLeastLeft s.least
    pub trouble : IsAsked s.trouble
    pub done : TellsDone s.done
    pub times : TimesAreShort setting c
