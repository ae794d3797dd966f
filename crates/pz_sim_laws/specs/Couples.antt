-- The pairs of a configuration, each with what its receive says: those of the rules, in their order.
use Rattle.std.specs.Prelude.{◌≡◌, ℕ, true, false, List, All, AllPairs, Contains, Some, Result, Bool, Ok, Err, slice_get}
use Rattle.pz_tree_standing.specs.pz_copy.Parcels.{ParcelView}
use Rattle.pz_tree_standing.specs.pz_offer.declared.end.End.{End}
use Rattle.pz_tree_standing.specs.pz_offer.declared.trouble.Trouble.{Trouble}
use Rattle.pz_tree_standing.specs.pz_offer.declared.ends.Verdict.{Verdict}
use Rattle.pz_tree_standing.specs.pz_offer.declared.ends.Verdict.TheVariants as says
use Rattle.pz_match.specs.Pairs.{Judged, Before}
use Rattle.pz_tree_standing.specs.pz_offer.PlaceOrder.{Place}
use Rattle.pz_tree_standing.specs.pz_rules.declared.action.Action.{Action}
use Rattle.pz_tree_standing.specs.pz_rules.declared.action.Action.TheVariants.{Comm}
use Rattle.pz_tree_standing.specs.pz_rules.Terms.{Term}
use Rattle.pz_tree_standing.specs.pz_rules.Settings.{Setting, Context}
use Rattle.pz_tree_standing.specs.pz_rules.Active.{IsActive}
use Rattle.pz_tree_standing.specs.pz_rules.Messages.{Judges}
use Rattle.pz_tree_standing.specs.pz_rules.Configurations.{Config}
use Rattle.pz_tree_standing.specs.pz_rules.Offers.{IsPair, IsJudged}
use Rattle.pz_sim_laws.specs.Members.{Member}

-- the value of a condition, in the words of the rules
abbrev pub answer : Verdict → Result Bool Trouble
answer says.Yes = Ok true
answer says.No = Ok false
answer (says.Trouble t) = Err t

-- an active part at this place says this to the parcel
abbrev pub SaysAt : Context → Term → Place → ParcelView → Result Bool Trouble → Type 0
SaysAt a t place parcel verdict = (frame : ℕ) (part : Term) → IsActive a t place frame part → Judges a frame parcel part verdict

-- what is offered where the receive of a pair takes the parcel
abbrev pub communication : Judged → Action
communication p = Comm p.sender.wire p.sender.end p.receiver.end p.sender.message p.sender.parcel

module _ (setting : Setting) (c : Config) where
  abbrev pub IsCouple : Judged → Type 0
  IsCouple p = IsPair setting c p.sender.wire p.sender.end p.receiver.end p.sender.message p.sender.parcel

  -- the receive says what is kept of it
  abbrev pub IsRight : Judged → Type 0
  IsRight p = IsJudged setting c p.receiver.end p.sender.parcel (answer p.verdict)

  -- strictly in order, exactly those of the rules, with what the receives say
  pub record AreCouples (ps : List Judged) : Type 0 where
    pub ordered : AllPairs Before ps
    pub are : All IsCouple ps
    pub right : All IsRight ps
    pub every : (wire : ℕ) (sender receiver : End) (message : List ℕ) (parcel : ParcelView) → IsPair setting c wire sender receiver message parcel
        → (p : Judged) × Contains ps p × (communication p ≡ Comm wire sender receiver message parcel)

-- what is kept of a pair is so of the process of its receive: a receive without a condition says Yes, another what its
-- condition comes to
pub record IsTruthful (ms : List Member) (p : Judged) : Type 0 where
  pub free : p.receiver.conditional ≡ false → p.verdict ≡ says.Yes
  pub asked : p.receiver.conditional ≡ true → (m : Member) → slice_get ms p.receiver.end.process ≡ Some m → SaysAt m.seen m.term p.receiver.end.place p.sender.parcel (answer p.verdict)
