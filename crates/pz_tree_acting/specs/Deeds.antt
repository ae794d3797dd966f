-- What a part of a process can do, and what that leaves of the process.
use Rattle.std.specs.Prelude.{◌≡◌, ℕ, List, Result}
use Rattle.pz_classes_code.specs.pz_syntax.declared.tokens.Pos.{Pos}
use Rattle.pz_rules.specs.pz_copy.Parcels.{ParcelView}
use Rattle.pz_rules.specs.pz_offer.PlaceOrder.{Place}
use Rattle.pz_rules.specs.pz_offer.declared.trouble.Trouble.{Trouble}
use Rattle.pz_rules.specs.declared.action.Kind.{Kind}
use Rattle.pz_rules.specs.Terms.{Term}
use Rattle.pz_rules.specs.Settings.{Process, Context}
use Rattle.pz_rules.specs.Active.{IsActive}
use Rattle.pz_rules.specs.InternalActions.{Can, Performs}
use Rattle.pz_rules.specs.Leaving.{settled}
use Rattle.pz_rules.specs.Meanings.{and_then}
use Rattle.pz_rules.specs.Messages.{Sends, Hands, Receives, Takes}
use Rattle.pz_rules.specs.Steps.{Deed}
use Rattle.pz_rules.specs.devices.Walks.{IsThere}
use Rattle.pz_tree_acting.specs.declared.how.How.{How}
use Rattle.pz_tree_acting.specs.declared.how.How.TheVariants.{Internal, Send, Receive}

-- what a part can do, with the place of its statement
abbrev pub Ability : Type 1
Ability = Context → ℕ → Term → Pos → Type 0

-- act by itself
abbrev pub CanAct : Ability
CanAct a f part pos = (kind : Kind) × Can a f part kind pos

-- send this parcel
abbrev pub CanSend : ParcelView → Ability
CanSend parcel a f part pos = (port : ℕ) × (message : List ℕ) × Sends a f part pos port message parcel

-- receive
abbrev pub CanReceive : Ability
CanReceive a f part pos = (port : ℕ) × (message : List ℕ) × (count : ℕ) × Receives part pos port message count

-- of a part that acts so; the parcel is that of a send
abbrev pub able : How → ParcelView → Ability
able Internal parcel = CanAct
able Send parcel = CanSend parcel
able (Receive taken) parcel = CanReceive

abbrev pub deed : How → ParcelView → Deed
deed Internal parcel = Performs
deed Send parcel = λ a f. Hands a f parcel
deed (Receive taken) parcel = λ a f. Takes a f taken.now

-- the active part at a place can do it
abbrev pub CanDo : Ability → Context → Term → Place → Type 0
CanDo can a t place = IsThere a t place (λ f part. (pos : Pos) × can a f part pos)

-- What the part at a place leaves of its process by a deed: the process without the frames that stand no longer, or
-- the trouble of the deed, or that the term would be too high.
pub record Leaves (a : Context) (does : Deed) (t : Term) (place : Place) (result : Result Process Trouble) : Type 0 where
  pub frame : ℕ
  pub part : Term
  pub active : IsActive a t place frame part
  pub pos : Pos
  pub left : Result Process Trouble
  pub acts : does a frame part pos left
  pub leaves : result ≡ and_then left (settled a pos t place)
