-- What a table of silent and heard processes says is so.
use Rattle.std.proofs.Common.{◌≡◌, ◌≢◌, ◌<◌, ◌≤◌, ◌⊎◌, inl, inr, ℕ, zero, suc, Bool, true, false, not, List, [], ◌∷◌, ◌++◌, set, get_or, length, Option, Some, Result, Ok, Err, refl, sym, subst, ap, ◌∙◌, arith}
use Rattle.std.specs.Prelude.{slice_get, filter, All, AllPairs, Contains, if◌then◌else◌}
use Rattle.std.proofs.Math.Logic.{∥∥₁_elim}
use Rattle.std.proofs.Math.Nat.{ℕ_set}
use Rattle.std.proofs.Math.Bool.{Bool-set}
use Rattle.std.proofs.lemmas.Bool.{cases_lt}
use Rattle.std.specs.Coded.{le_prop}
use Rattle.std.proofs.lemmas.Option.{same_Some, slice_get_within}
use Rattle.std.proofs.lemmas.List.Elements.{Contains-append_left, Contains-append_right, Contains-get_or}
use Rattle.pz_rules.specs.pz_syntax.Classes.{ModelTree}
use Rattle.pz_rules.specs.pz_offer.declared.trouble.Trouble.{Trouble}
use Rattle.pz_rules.specs.pz_offer.declared.ends.Verdict.{Verdict}
use Rattle.pz_rules.specs.pz_offer.declared.ends.Verdict.TheVariants as says
use Rattle.pz_rules.specs.pz_offer.declared.ends.SendOffer.{SendOffer}
use Rattle.pz_rules.specs.pz_offer.declared.ends.ReceiveOffer.{ReceiveOffer}
use Rattle.pz_rules.specs.pz_offer.PlaceOrder.{Place, PlaceBefore}
use Rattle.pz_match.specs.declared.offers.Sender.{Sender}
use Rattle.pz_match.specs.declared.offers.Receiver.{Receiver}
use Rattle.pz_match.specs.Offers as match_offers
use Rattle.pz_match.specs.Offers.{Fits}
use Rattle.pz_match.specs.Pairs.{Judged, ArePairs, touches}
use Rattle.pz_match.specs.Judging.{said}
use Rattle.pz_match.specs.Table.{Table, all_senders, all_receivers}
use Rattle.pz_rules.specs.Terms.{Term, done}
use Rattle.pz_rules.specs.Settings.{Context}
use Rattle.pz_rules.specs.Active as active
use Rattle.pz_rules.specs.Active.{Active}
use Rattle.pz_rules.specs.Acting.{IsReceive}
use Rattle.pz_sim_laws.specs.Members.{Member}
use Rattle.pz_sim_laws.specs.Offering.{SendersOf, ReceiversOf, AreSenders, AreReceivers, in_all}
use Rattle.pz_sim_laws.specs.Couples.{answer, SaysAt, IsTruthful}
use Rattle.pz_sim_laws.specs.Elapsing.{HasReceive}
use Rattle.pz_sim_laws.specs.devices.Saying.{said_at, verdict_of, SaysWhatIsComputed}
use Rattle.pz_sim_laws.specs.Laws.{SendsAreOrdered, ReceivesAreOrdered, ReceiversStand, SendersAreReplaced, ReceiversAreReplaced, OthersStayTruthful}
use Rattle.pz_tree.specs.declared.tree.Tree.{Tree}
use Rattle.pz_tree.specs.Trees.{at_in, term_in, IsFresh}
use Rattle.pz_sim.specs.Members.{member_of}
use Rattle.pz_sim.specs.devices.Questions.{Stands, Takes, said_in, verdict_in}
use Rattle.pz_sim.specs.devices.Tables.{hushed, IsTable, IsHeard, AreHeard, AreHeardBut, CanSpeak}
use Rattle.pz_sim.proofs.Counted.{all_made}

pub answered : (r : Result Bool Trouble) → answer (verdict_of r) ≡ r
answered (Ok true) = refl
answered (Ok false) = refl
answered (Err t) = refl

-- nothing that is done receives
none_done : {a : Context} {f g : ℕ} {place : Place} {t part : Term} → Active a f t place g part → t ≡ done → IsReceive part → ⊥
none_done (active.here f t) e is = subst IsReceive e is
none_done {a} (active.inside f t i place g part reached x) e is = subst (λ (u : Term). active.Reached a f u i) e reached

no_receive : (a : Context) (t : Term) (place : Place) → t ≡ done → HasReceive a t place → ⊥
no_receive a t place e has = none_done has.active e has.receive

pub same_or_apart : (i j : ℕ) → (i ≡ j) ⊎ (i ≢ j)
same_or_apart i j = by (cases_lt i j) (cases_lt j i)
  where
    by : (i < j) ⊎ (j ≤ i) → (j < i) ⊎ (i ≤ j) → (i ≡ j) ⊎ (i ≢ j)
    by (inl less) other = inr (λ e. omega (arith, less, e))
    by (inr more) (inl less) = inr (λ e. omega (arith, less, e))
    by (inr more) (inr most) = inl (omega (arith, more, most))

pub set_same : {X : Type 0} (xs : List X) (i : ℕ) (y x : X) → slice_get (set xs i y) i ≡ Some x → x ≡ y
set_same [] i y x is = cc
set_same (z ∷ xs) zero y x is = sym (same_Some y x is)
set_same (z ∷ xs) (suc i) y x is = set_same xs i y x is

pub set_other : {X : Type 0} (xs : List X) (i j : ℕ) (y : X) → i ≢ j → slice_get (set xs i y) j ≡ slice_get xs j
set_other [] i j y apart = refl
set_other (x ∷ xs) zero zero y apart = absurd (apart refl)
set_other (x ∷ xs) zero (suc j) y apart = refl
set_other (x ∷ xs) (suc i) zero y apart = refl
set_other (x ∷ xs) (suc i) (suc j) y apart = set_other xs i j y (λ e. apart (ap suc e))

module _ (m : ModelTree) (clock : ℕ) (ts : List Tree) where
  pub heard_but : (hs : List Member) (i : ℕ) → AreHeard m clock ts hs → AreHeardBut m clock ts i hs
  heard_but hs i heard j h apart there = heard j h there

  -- one more is silent, or heard

  pub heard_silent : (hs : List Member) (i : ℕ) (h : Member) → AreHeard m clock ts hs → AreHeard m clock ts (set hs i (hushed h))
  heard_silent hs i h heard j x there = by (same_or_apart i j)
    where
      by : (i ≡ j) ⊎ (i ≢ j) → (x.term ≡ done) ⊎ IsHeard m clock ts j x
      by (inl same) = inl (ap (λ (y : Member). y.term) (set_same hs i (hushed h) x (ap (slice_get (set hs i (hushed h))) same ∙ there)))
      by (inr apart) = heard j x (sym (set_other hs i j (hushed h) apart) ∙ there)

  pub heard_more : (hs : List Member) (i : ℕ) (t : Tree) → slice_get ts i ≡ Some t → IsFresh m t → t.clock ≡ clock → AreHeardBut m clock ts i hs → AreHeard m clock ts (set hs i (member_of m t))
  heard_more hs i t is fresh same_clock heard j x there = by (same_or_apart i j)
    where
      by : (i ≡ j) ⊎ (i ≢ j) → (x.term ≡ done) ⊎ IsHeard m clock ts j x
      by (inl same) = inr (record {
        tree = t;
        is = ap (slice_get ts) (sym same) ∙ is;
        fresh = fresh;
        same_clock = same_clock;
        same = set_same hs i (member_of m t) x (ap (slice_get (set hs i (member_of m t))) same ∙ there);
      })
      by (inr apart) = heard j x apart (sym (set_other hs i j (member_of m t) apart) ∙ there)

  module _ (stand : ReceiversStand) (hs : List Member) (rows : List (List Receiver)) (are : AreReceivers hs rows) where
    -- a receive that is offered stands in a tree
    record InTree (r : Receiver) : Type 0 where
      pub member : Member
      pub is_member : slice_get hs r.end.process ≡ Some member
      pub one : IsHeard m clock ts r.end.process member
      pub receives : HasReceive (at_in m one.tree) (term_in one.tree) r.end.place

    -- whose process is silent or heard
    abbrev One : Receiver → Type 0
    One r = (h : Member) → slice_get hs r.end.process ≡ Some h → (h.term ≡ done) ⊎ IsHeard m clock ts r.end.process h

    in_tree : (r : Receiver) → Contains (in_all rows) r → One r → InTree r
    in_tree r there one = by (one x.0 x.1)
      where
        x : (h : Member) × (slice_get hs r.end.process ≡ Some h) × HasReceive h.seen h.term r.end.place
        x = stand hs rows r are there

        by : (x.0.term ≡ done) ⊎ IsHeard m clock ts r.end.process x.0 → InTree r
        by (inl is_done) = absurd (no_receive x.0.seen x.0.term r.end.place is_done x.2)
        by (inr one) = record { member = x.0; is_member = x.1; one = one; receives = subst (λ (h : Member). HasReceive h.seen h.term r.end.place) one.same x.2 }

    pub stands : (r : Receiver) → Contains (in_all rows) r → One r → Stands m clock ts r.end
    stands r there one = let x = in_tree r there one in record { tree = x.one.tree; is = x.one.is; fresh = x.one.fresh; same_clock = x.one.same_clock; receives = x.receives }

    said_so : (s : Sender) (r : Receiver) (b : Bool) → r.conditional ≡ b → (v : Verdict) → v ≡ said (λ from parcel to. verdict_in m ts to parcel) s r → (r.conditional ≡ true → v ≡ verdict_in m ts r.end s.parcel)
    said_so s r b is v e cond = e ∙ ap (λ (c : Bool). if c then verdict_in m ts r.end s.parcel else says.Yes) cond

    pub truthful : SaysWhatIsComputed → (p : Judged) → Contains (in_all rows) p.receiver → One p.receiver → p.verdict ≡ said (λ from parcel to. verdict_in m ts to parcel) p.sender p.receiver → IsTruthful hs p
    truthful says_so p there heard e = record {
      free = λ free. e ∙ ap (λ (c : Bool). if c then verdict_in m ts p.receiver.end p.sender.parcel else says.Yes) free;
      asked = λ cond h is.
          let x = in_tree p.receiver there heard in
          let t = x.one.tree in
          let same : h ≡ member_of m t = same_Some h x.member (sym is ∙ x.is_member) ∙ x.one.same in
          let v : p.verdict ≡ verdict_of (said_at (at_in m t) (term_in t) p.receiver.end.place p.sender.parcel) =
          said_so p.sender p.receiver true cond p.verdict e cond ∙ ap (λ (o : Option Tree). said_in m o p.receiver.end.place p.sender.parcel) x.one.is in
          subst (λ (y : Member). SaysAt y.seen y.term p.receiver.end.place p.sender.parcel (answer p.verdict)) (sym same)
          (subst (λ (r : Result Bool Trouble). SaysAt (at_in m t) (term_in t) p.receiver.end.place p.sender.parcel r) (sym (ap answer v ∙ answered (said_at (at_in m t) (term_in t) p.receiver.end.place p.sender.parcel)))
          (says_so (at_in m t) (term_in t) p.receiver.end.place p.sender.parcel x.receives));
    }

-- of two places, one is before the other in one way at most
before_prop : (p q : Place) (x y : PlaceBefore p q) → x ≡ y
before_prop p [] x y = absurd x
before_prop [] (j ∷ q) x y = refl
before_prop (i ∷ p) (j ∷ q) (inl x) (inl y) = ap (λ (z : i < j). inl z) (le_prop x y)
before_prop (i ∷ p) (j ∷ q) (inl x) (inr (e, y)) = absurd (omega (arith, x, e))
before_prop (i ∷ p) (j ∷ q) (inr (e, x)) (inl y) = absurd (omega (arith, e, y))
before_prop (i ∷ p) (j ∷ q) (inr (e, x)) (inr (f, y)) = λ n. inr (ℕ_set i j e f n, before_prop p q x y n)

-- lists one behind the other

contains_left : {X : Type 0} (xs ys : List X) (x : X) → Contains xs x → Contains (xs ++ ys) x
contains_left xs ys x there = Contains-append_left xs ys x there

from_one : {X : Type 0} (rows : List (List X)) (k : ℕ) (row : List X) (x : X) → slice_get rows k ≡ Some row → Contains row x → Contains (in_all rows) x
from_one [] k row x is there = cc
from_one {X} (z ∷ rows) zero row x is there = contains_left z (in_all rows) x (subst (λ (r : List X). Contains r x) (sym (same_Some z row is)) there)
from_one (z ∷ rows) (suc k) row x is there = Contains-append_right z (in_all rows) x (from_one rows k row x is there)

set_there : {X : Type 0} (xs : List X) (i : ℕ) (y : X) → i < length xs → slice_get (set xs i y) i ≡ Some y
set_there [] i y within = absurd (omega (arith, within))
set_there (x ∷ xs) zero y within = refl
set_there (x ∷ xs) (suc i) y within = set_there xs i y (omega (arith, within))

pub all_got : {X : Type 0} (P : X → Type 0) (xs : List X) (x : X) → All P xs → Contains xs x → P x
all_got P xs x all (k, within, is) = subst P is (all k x within)

all_by : {X : Type 0} (P : X → Type 0) (xs : List X) → ((x : X) → Contains xs x → P x) → All P xs
all_by P xs each k d within = each (get_or xs k d) (Contains-get_or xs k d within)

-- what a silent process offers
pub silent_senders : (i : ℕ) (h : Member) → SendersOf i (hushed h) []
silent_senders i h = record { offers = []; are = tt; over_wires = refl }

pub silent_receivers : (i : ℕ) (h : Member) → ReceiversOf i (hushed h) []
silent_receivers i h = record { offers = []; are = tt; over_wires = refl }

-- The table after one process has been told of anew

module _ (stand : ReceiversStand) (says_so : SaysWhatIsComputed) (senders_so : SendersAreReplaced) (receivers_so : ReceiversAreReplaced) (others : OthersStayTruthful)
    (m : ModelTree) (clock : ℕ) (ts : List Tree) where
  abbrev Said : Judged → Type 0
  Said p = p.verdict ≡ said (λ from parcel to. verdict_in m ts to parcel) p.sender p.receiver

  pub replaced_table : (hs : List Member) (i : ℕ) (x : Member) (srow : List Sender) (rrow : List Receiver) (old new : Table) → AreHeard m clock ts (set hs i x) → SendersOf i x srow → ReceiversOf i x rrow → IsTable hs old
      → new.lost ≡ false → new.senders ≡ set old.senders i srow → new.receivers ≡ set old.receivers i rrow → ArePairs (all_senders new) (all_receivers new) new.pairs
      → All (λ p. touches i p ≡ true → Said p) new.pairs → filter (λ p. not (touches i p)) new.pairs ≡ filter (λ p. not (touches i p)) old.pairs → IsTable (set hs i x) new
  replaced_table hs i x srow rrow old new heard sends_of receives_of is there senders_are receivers_are pairs asked same =
      let srows : AreSenders (set hs i x) new.senders = subst (λ (rows : List (List Sender)). AreSenders (set hs i x) rows) (sym senders_are) (senders_so hs old.senders i x srow is.senders sends_of) in
      let rrows : AreReceivers (set hs i x) new.receivers = subst (λ (rows : List (List Receiver)). AreReceivers (set hs i x) rows) (sym receivers_are) (receivers_so hs old.receivers i x rrow is.receivers receives_of) in
      record {
        there = there;
        senders = srows;
        receivers = rrows;
        pairs = pairs;
        truthful = others hs i x old.pairs new.pairs is.truthful same
            (all_by (λ (p : Judged). touches i p ≡ true → IsTruthful (set hs i x) p) new.pairs (λ p within touched.
            truthful m clock ts stand (set hs i x) new.receivers rrows says_so p (all_got (λ (q : Judged). Contains (all_receivers new) q.receiver) new.pairs p pairs.receives within) (heard p.receiver.end.process)
            (all_got (λ (q : Judged). touches i q ≡ true → Said q) new.pairs p asked within touched)));
      }

  -- which questions are asked

  pub asks_sends : (old : Table) (i : ℕ) (sends : List SendOffer) (receives : List ReceiveOffer) → ∥ CanSpeak m clock ts old i sends receives ∥₁
      → (s : Sender) (r : Receiver) → Contains (match_offers.senders i sends) s → Contains (all_receivers old) r → Fits s r → Takes m clock ts r.end
  asks_sends old i sends receives k s r there_s there fits = ∥∥₁_elim k squash₁ (λ x.
      let of_it : s.end.process ≡ i = all_got (λ (y : Sender). y.end.process ≡ i) (match_offers.senders i sends) s (all_made (λ (y : Sender). y.end.process ≡ i) (λ y. y.wire) (λ y wire. match_offers.sender i y wire) (λ y wire. refl) sends) there_s in
      ∣ stands m clock ts stand x.members old.receivers x.table.receivers r there (λ h is. x.heard r.end.process h (λ e. fits.two (of_it ∙ e)) is) ∣₁)

  pub asks_receives : (old : Table) (i : ℕ) (sends : List SendOffer) (receives : List ReceiveOffer) → ∥ CanSpeak m clock ts old i sends receives ∥₁
      → (r : Receiver) → Contains (match_offers.receivers i receives) r → Takes m clock ts r.end
  asks_receives old i sends receives k r there = ∥∥₁_elim k squash₁ (λ x.
      let hs = set x.members i (member_of m x.tree) in
      let rows = set old.receivers i (match_offers.receivers i receives) in
      let within : i < length old.receivers = omega (arith, slice_get_within x.members i x.before x.is_before, x.table.receivers.all) in
      ∣ stands m clock ts stand hs rows
      (receivers_so x.members old.receivers i (member_of m x.tree) (match_offers.receivers i receives) x.table.receivers (record { offers = receives; are = x.are_receives; over_wires = refl }))
      r (from_one rows i (match_offers.receivers i receives) r (set_there old.receivers i (match_offers.receivers i receives) within) there)
      (heard_more m clock ts x.members i x.tree x.is x.fresh x.same_clock x.heard r.end.process) ∣₁)

  pub speaks_within : (old : Table) (i : ℕ) (sends : List SendOffer) (receives : List ReceiveOffer) → ∥ CanSpeak m clock ts old i sends receives ∥₁ → i < length old.senders
  speaks_within old i sends receives k = ∥∥₁_elim k le_prop (λ x. omega (arith, slice_get_within x.members i x.before x.is_before, x.table.senders.all))

  pub speaks_there : (old : Table) (i : ℕ) (sends : List SendOffer) (receives : List ReceiveOffer) → ∥ CanSpeak m clock ts old i sends receives ∥₁ → old.lost ≡ false
  speaks_there old i sends receives k = ∥∥₁_elim k (Bool-set old.lost false) (λ x. x.table.there)

  pub speaks_in_order : SendsAreOrdered → (old : Table) (i : ℕ) (sends : List SendOffer) (receives : List ReceiveOffer) → ∥ CanSpeak m clock ts old i sends receives ∥₁
      → AllPairs (λ s t. PlaceBefore s.place t.place) sends
  speaks_in_order law old i sends receives k a b d less inside = ∥∥₁_elim k (before_prop (get_or sends a d).place (get_or sends b d).place) (λ x. law (member_of m x.tree) sends x.are_sends a b d less inside)

  pub hears_in_order : ReceivesAreOrdered → (old : Table) (i : ℕ) (sends : List SendOffer) (receives : List ReceiveOffer) → ∥ CanSpeak m clock ts old i sends receives ∥₁
      → AllPairs (λ s t. PlaceBefore s.place t.place) receives
  hears_in_order law old i sends receives k a b d less inside = ∥∥₁_elim k (before_prop (get_or receives a d).place (get_or receives b d).place) (λ x. law (member_of m x.tree) receives x.are_receives a b d less inside)
