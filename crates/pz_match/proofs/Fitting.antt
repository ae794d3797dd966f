-- Offers of one group fit, and the judge takes their questions.
use Rattle.std.proofs.Common.{◌≡◌, ◌≢◌, ◌<◌, sym, ◌∙◌, ap, subst, ℕ, zero, suc, nat_eq, List, [], ◌∷◌, length, get_or, Some, arith}
use Rattle.std.specs.Prelude.{All, map, Contains}
use Rattle.std.specs.List.{flat_map}
use Rattle.std.proofs.lemmas.Bool.{eqb-true, eqb-false, and_parts}
use Rattle.std.proofs.lemmas.List.{length-map, get_or-map}
use Rattle.std.proofs.lemmas.List.Elements.{Contains-append_left, Contains-append_right, Contains-get_or}
use Rattle.pz_offer.specs.pz_copy.Parcels.{ParcelView}
use Rattle.pz_offer.specs.declared.end.End.{End}
use Rattle.pz_match.specs.declared.offers.Sender.{Sender}
use Rattle.pz_match.specs.declared.offers.Receiver.{Receiver}
use Rattle.pz_match.specs.declared.groups.Group.{Group}
use Rattle.pz_match.specs.declared.kept.Sending.{Sending}
use Rattle.pz_match.specs.declared.kept.Receiving.{Receiving}
use Rattle.pz_match.specs.Offers.{Fits}
use Rattle.pz_match.specs.devices.Kept.{Kept}
use Rattle.pz_match.specs.devices.Tallies.{GroupsView, HasKey}
use Rattle.pz_match.specs.devices.Asking.{MayAsk, MayAskAll}
use Rattle.pz_match.specs.devices.Holding.{SendKeyed, ReceiveKeyed}
use Rattle.pz_match.specs.Judging.{MayTake}
use Rattle.pz_match.specs.devices.Updating.{senders_of, receivers_of}

-- one group has one set of marks
pub one_key : (groups : List Group) (g : ℕ) (w v : ℕ) (m n : List ℕ) (c d : ℕ) → HasKey groups g w m c → HasKey groups g v n d → (w ≡ v) × (m ≡ n) × (c ≡ d)
one_key groups g w v m n c d a b =
    let both : Some a.group ≡ Some b.group = sym a.there ∙ b.there in
    let same : a.group ≡ b.group = cc in
    (sym a.wire_is ∙ (ap (λ (x : Group). x.wire) same ∙ b.wire_is), sym a.message_is ∙ (ap (λ (x : Group). x.message) same ∙ b.message_is), sym a.count_is ∙ (ap (λ (x : Group). x.count) same ∙ b.count_is))

pub fits_by_group : (groups : List Group) (s : Sender) (g : ℕ) (r : Receiving) → HasKey groups g s.wire s.message (length s.parcel.values) → HasKey groups r.group r.receiver.wire r.receiver.message r.receiver.count → r.group ≡ g
    → s.end.process ≢ r.receiver.end.process → Fits s r.receiver
fits_by_group groups s g r a b same two =
    let marks = one_key groups g s.wire r.receiver.wire s.message r.receiver.message (length s.parcel.values) r.receiver.count a (subst (λ k. HasKey groups k r.receiver.wire r.receiver.message r.receiver.count) same b) in
    record { wire = marks.0; message = marks.1; values = marks.2; two = two }

-- what is among the offers of a process is among all

module _ {X : Type 0} (f : Kept → List X) where
  pub among_all : (all : List Kept) (i : ℕ) (d : Kept) (x : X) → i < length all → Contains (f (get_or all i d)) x → Contains (flat_map f all) x
  among_all [] i d x lt there = absurd (omega (arith, lt))
  among_all (e ∷ all) zero d x lt there = Contains-append_left (f e) (flat_map f all) x there
  among_all (e ∷ all) (suc i) d x lt there = Contains-append_right (f e) (flat_map f all) x (among_all all i d x (omega (arith, lt)) there)

pub among_map : {X Y : Type 0} (f : X → Y) (xs : List X) (i : ℕ) (d : X) → i < length xs → Contains (map f xs) (f (get_or xs i d))
among_map f xs i d lt = subst (Contains (map f xs)) (get_or-map f xs i d (f d) lt) (Contains-get_or (map f xs) i (f d) (omega (arith, lt, length-map xs f)))

module _ {J : Type 0} (takes : J → End → ParcelView → End → Type 0) (j : J) (groups : GroupsView) where
  -- a send of a process with all receives of others
  pub may_ask_all : (all : List Kept) (s : Sender) (g : ℕ) (ss : List Sender) → HasKey groups.groups g s.wire s.message (length s.parcel.values) → Contains ss s
      → All (λ e. All (ReceiveKeyed groups) e.receives) all → All (λ e. All (λ r. r.receiver.end.process ≡ e.process) e.receives) all → MayTake takes j ss (receivers_of all) → All (MayAskAll takes j s g) all
  may_ask_all all s g ss key among keys own may k d lt other = λ i c below asks.
      let e : Kept = get_or all k d in
      let r : Receiving = get_or e.receives i c in
      let parts = and_parts (nat_eq r.group g) r.receiver.conditional asks in
      let two : s.end.process ≢ r.receiver.end.process = λ same. eqb-false e.process s.end.process other (sym (own k d lt i c below) ∙ sym same) in
      may s r.receiver among (among_all (λ x. map (λ q. q.receiver) x.receives) all k d r.receiver lt (among_map (λ (q : Receiving). q.receiver) e.receives i c below))
      (fits_by_group groups.groups s g r key (keys k d lt i c below) (eqb-true r.group g parts.0) two) parts.1

  -- all sends of others with the receives of a process
  pub may_ask_sends : (all : List Kept) (p : ℕ) (heard : List Receiving) (rs : List Receiver) → All (λ e. All (SendKeyed groups) e.sends) all → All (ReceiveKeyed groups) heard
      → All (λ e. All (λ s. s.sender.end.process ≢ p) e.sends) all → All (λ r. r.receiver.end.process ≡ p) heard → map (λ r. r.receiver) heard ≡ rs
      → MayTake takes j (senders_of all) rs → All (λ e. All (λ s. All (MayAsk takes j s.sender s.group) heard) e.sends) all
  may_ask_sends all p heard rs keys heard_keys foreign own same may k d lt i c below n b under asks =
      let e : Kept = get_or all k d in
      let s : Sending = get_or e.sends i c in
      let r : Receiving = get_or heard n b in
      let parts = and_parts (nat_eq r.group s.group) r.receiver.conditional asks in
      let two : s.sender.end.process ≢ r.receiver.end.process = λ eq. foreign k d lt i c below (eq ∙ own n b under) in
      may s.sender r.receiver (among_all (λ x. map (λ q. q.sender) x.sends) all k d s.sender lt (among_map (λ (q : Sending). q.sender) e.sends i c below))
      (subst (λ (xs : List Receiver). Contains xs r.receiver) same (among_map (λ (q : Receiving). q.receiver) heard n b under))
      (fits_by_group groups.groups s.sender s.group r (keys k d lt i c below) (heard_keys n b under) (eqb-true r.group s.group parts.0) two) parts.1
