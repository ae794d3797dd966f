-- What the receive at a place says to a parcel, computed.
use Rattle.std.specs.Prelude.{◌≡◌, ◌+◌, ℕ, Bool, true, false, nat_le, if◌then◌else◌, List, [], ◌∷◌, length, Option, Some, None, Result, Ok, Err}
use Rattle.pz_tree_standing.specs.pz_syntax.declared.tokens.Pos.{Pos}
use Rattle.pz_tree_standing.specs.pz_syntax.Statements.{receive}
use Rattle.pz_tree_standing.specs.pz_classes_code.declared.slot.Slot.{Slot}
use Rattle.pz_tree_standing.specs.pz_copy.Parcels.{ParcelView}
use Rattle.pz_tree_standing.specs.pz_state.States.{object_limit}
use Rattle.pz_tree_standing.specs.pz_state.declared.fault.FaultKind.TheVariants.{StoreFull}
use Rattle.pz_tree_standing.specs.pz_offer.declared.trouble.Trouble.{Trouble}
use Rattle.pz_tree_standing.specs.pz_offer.declared.ends.Verdict.{Verdict}
use Rattle.pz_tree_standing.specs.pz_offer.declared.ends.Verdict.TheVariants as says
use Rattle.pz_tree_standing.specs.pz_offer.PlaceOrder.{Place}
use Rattle.pz_tree_standing.specs.pz_rules.Terms.{Code, Step, Term, leaf, child, frame_in}
use Rattle.pz_tree_standing.specs.pz_rules.Settings.{Context, in_state}
use Rattle.pz_tree_standing.specs.pz_rules.Laws.{part_of}
use Rattle.pz_tree_standing.specs.pz_rules.Meanings.{fault}
use Rattle.pz_tree_standing.specs.pz_rules.Messages.{bound}
use Rattle.pz_tree_standing.specs.pz_rules.devices.Found.{tested}
use Rattle.pz_sim_laws.specs.Couples.{SaysAt}
use Rattle.pz_sim_laws.specs.Elapsing.{HasReceive}

-- the frame in which the part at a place of a term stands, which stands in frame f
abbrev pub frame_of : ℕ → Term → Place → ℕ
frame_of f t [] = f
frame_of f t (i ∷ place) = frame_of (frame_in t f) (child t i) place

abbrev pub condition_says : Context → ℕ → Pos → Option (List Slot) → Option Code → ParcelView → Result Bool Trouble
condition_says a f at into None parcel = Ok true
condition_says a f at into (Some e) parcel =
    if nat_le (length a.state.objects + length parcel.objects) object_limit then tested (in_state a (bound a f into parcel)) f at e else fault StoreFull a.process at

abbrev pub statement_says : Context → ℕ → Step → ParcelView → Result Bool Trouble
statement_says a f (receive at port name into condition block) parcel = condition_says a f at into condition parcel
statement_says a f s parcel = Ok true

abbrev pub part_says : Context → ℕ → Term → ParcelView → Result Bool Trouble
part_says a f (leaf s) parcel = statement_says a f s parcel
part_says a f t parcel = Ok true

abbrev pub said_at : Context → Term → Place → ParcelView → Result Bool Trouble
said_at a t place parcel = part_says a (frame_of 0 t place) (part_of t place) parcel

abbrev pub verdict_of : Result Bool Trouble → Verdict
verdict_of (Ok true) = says.Yes
verdict_of (Ok false) = says.No
verdict_of (Err t) = says.Trouble t

-- a receive says what is computed, and nothing else
abbrev pub SaysWhatIsComputed : Type 0
SaysWhatIsComputed = (a : Context) (t : Term) (place : Place) (parcel : ParcelView) → HasReceive a t place → SaysAt a t place parcel (said_at a t place parcel)

abbrev pub SaysNothingElse : Type 0
SaysNothingElse = (a : Context) (t : Term) (place : Place) (parcel : ParcelView) (r : Result Bool Trouble) → HasReceive a t place → SaysAt a t place parcel r → r ≡ said_at a t place parcel
