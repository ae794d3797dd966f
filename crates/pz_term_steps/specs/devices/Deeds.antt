-- What a part does and leaves, of its process alone.
use Rattle.std.specs.Prelude.{◌≡◌, ℕ, List, ◌∷◌, Result, Ok, Err}
use Rattle.pz_classes_code.specs.pz_syntax.declared.tokens.Pos.{Pos}
use Rattle.pz_rules.specs.pz_copy.Parcels.{ParcelView}
use Rattle.pz_rules.specs.pz_state.States.{StateView}
use Rattle.pz_rules.specs.pz_state.Marks.{Seen}
use Rattle.pz_rules.specs.pz_offer.PlaceOrder.{Place}
use Rattle.pz_rules.specs.pz_offer.declared.trouble.Trouble.{Trouble}
use Rattle.pz_rules.specs.declared.action.Kind.{Kind}
use Rattle.pz_rules.specs.Terms.{Term}
use Rattle.pz_rules.specs.Settings.{Setting, Process, Context, left_by, Home}
use Rattle.pz_rules.specs.Active.{IsActive}
use Rattle.pz_rules.specs.InternalActions.{Can}
use Rattle.pz_rules.specs.Leaving.{residual, swept, not_too_high, settled}
use Rattle.pz_rules.specs.Meanings.{and_then}
use Rattle.pz_rules.specs.Messages.{Sends, Receives}
use Rattle.pz_rules.specs.Steps.{Deed}
use Rattle.pz_rules.specs.View.{term_view}
use Rattle.pz_rules.specs.devices.Walks.{IsThere}
use Rattle.pz_term_steps.specs.declared.begun.Begun.{Begun}

-- process i of this class, as its statements see it
abbrev pub seen_at : Setting → ℕ → ℕ → ℕ → StateView → Context
seen_at setting i class clock s = record { setting = setting; process = i; class = class; clock = clock; state = s }

-- What a part can do, with the place of its statement: act by itself, send this parcel, receive.
abbrev pub Ability : Type 1
Ability = Context → ℕ → Term → Pos → Type 0

abbrev pub CanAct : Ability
CanAct a f part pos = (kind : Kind) × Can a f part kind pos

abbrev pub CanSend : ParcelView → Ability
CanSend parcel a f part pos = (port : ℕ) × (message : List ℕ) × Sends a f part pos port message parcel

abbrev pub CanReceive : Ability
CanReceive a f part pos = (port : ℕ) × (message : List ℕ) × (count : ℕ) × Receives part pos port message count

-- the active part at a place can do it
abbrev pub CanDo : Ability → Context → Term → Place → Type 0
CanDo can a t place = IsThere a t place (λ f part. (pos : Pos) × can a f part pos)

-- what the part at a place leaves of its process by a deed
pub record Leaves (a : Context) (does : Deed) (t : Term) (place : Place) (result : Result Process Trouble) : Type 0 where
  pub frame : ℕ
  pub part : Term
  pub active : IsActive a t place frame part
  pub pos : Pos
  pub left : Result Process Trouble
  pub acts : does a frame part pos left
  pub leaves : result ≡ and_then left (settled a pos t place)

-- the whole process at home, when the part at the place has become this
abbrev pub settled_home : Home → Context → Pos → Term → Place → Process → Result Process Trouble
settled_home h a at whole place x = not_too_high a at (swept (residual h 0 whole place x))

-- the process in this state, once the part at the place has become what it is now
abbrev pub begun_process : Home → Term → Place → StateView → Result Begun Trouble → Result Process Trouble
begun_process h t place s (Ok begun) = Ok (swept (residual h 0 t place (left_by s (term_view begun.part))))
begun_process h t place s (Err trouble) = Err trouble

-- its mark is open, at the state as it was; at a trouble all is as it was
abbrev pub IsBegun : Seen → Seen → Result Begun Trouble → Type 0
IsBegun old new (Ok begun) = new.marks ≡ (begun.point, old.held) ∷ old.marks
IsBegun old new (Err trouble) = new ≡ old
