-- What a judge says, and what stays of a judge that was asked.
use Rattle.std.specs.Prelude.{◌≡◌, ℕ, true, List, Contains, if◌then◌else◌}
use Rattle.pz_offer.specs.pz_copy.Parcels.{ParcelView}
use Rattle.pz_offer.specs.declared.end.End.{End}
use Rattle.pz_offer.specs.declared.ends.Verdict.{Verdict}
use Rattle.pz_offer.specs.declared.ends.Verdict.TheVariants.{Yes}
use Rattle.pz_match.specs.declared.offers.Sender.{Sender}
use Rattle.pz_match.specs.declared.offers.Receiver.{Receiver}
use Rattle.pz_match.specs.Offers.{Fits}

-- what is said to questions: of a send, by its end and its values, and a receive
abbrev pub Verdicts : Type 0
Verdicts = End → ParcelView → End → Verdict

-- of a pair: a receive without a condition says Yes
abbrev pub said : Verdicts → Sender → Receiver → Verdict
said says s r = if r.conditional then says s.end s.parcel r.end else Yes

-- it takes what it took, says what it said, and has borrowed what it had borrowed
pub record Stays {J : Type 0} (takes : J → End → ParcelView → End → Type 0) (verdict : J → Verdicts) (lent : J → List ℕ) (old new : J) : Type 0 where
  pub takes_too : (s : End) (p : ParcelView) (r : End) → takes old s p r → takes new s p r
  pub says_so : (s : End) (p : ParcelView) (r : End) → verdict new s p r ≡ verdict old s p r
  pub lent_so : lent new ≡ lent old

-- it takes the questions about all pairs of these that fit and have a condition
abbrev pub MayTake : {J : Type 0} → (J → End → ParcelView → End → Type 0) → J → List Sender → List Receiver → Type 0
MayTake takes j ss rs = (s : Sender) (r : Receiver) → Contains ss s → Contains rs r → Fits s r → r.conditional ≡ true → takes j s.end s.parcel r.end
