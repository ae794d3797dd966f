-- The pairs are in their order.
use Rattle.std.proofs.Common.{◌≡◌, ◌<◌, inl, inr, refl, sym, ◌∙◌, ap, subst, ℕ, suc, Bool, true, false, nat_eq, List, [], ◌∷◌, ◌++◌, length, get_or, drop, Option, Some, None, if◌then◌else◌, arith}
use Rattle.std.specs.Prelude.{All, AllPairs, map}
use Rattle.std.specs.List.{flat_map}
use Rattle.std.proofs.lemmas.Bool.{eqb-true}
use Rattle.std.specs.Option.{option_map_or}
use Rattle.std.proofs.lemmas.List.{length-map, get_or-map}
use Rattle.std.proofs.lemmas.List.Elements.{All-nil, All-cons, All-append, All-head, All-tail, All-weaker, All-map}
use Rattle.std.proofs.lemmas.List.Kept.{AllPairs-cons}
use Rattle.std.proofs.lemmas.Option.{slice_get-get_or, get_or_from_slice_get, slice_get_within}
use Rattle.pz_offer.specs.PlaceOrder.{PlaceBefore}
use Rattle.pz_offer.specs.declared.ends.Verdict.{Verdict}
use Rattle.pz_offer.specs.declared.ends.Verdict.TheVariants.{Yes}
use Rattle.pz_offer.specs.declared.ends.SendOffer.{SendOffer}
use Rattle.pz_offer.specs.declared.ends.ReceiveOffer.{ReceiveOffer}
use Rattle.pz_match.specs.declared.offers.Sender.{Sender}
use Rattle.pz_match.specs.declared.offers.Receiver.{Receiver}
use Rattle.pz_match.specs.declared.rows.Row.{Row}
use Rattle.pz_match.specs.declared.kept.Sending.{Sending}
use Rattle.pz_match.specs.declared.kept.Receiving.{Receiving}
use Rattle.pz_match.specs.Offers.{senders, receivers, sender, receiver}
use Rattle.pz_match.specs.Judging.{Verdicts}
use Rattle.pz_match.specs.Pairs.{Judged, Before}
use Rattle.pz_match.specs.devices.Lists.{upto}
use Rattle.pz_match.specs.devices.Kept.{Kept, rows_at, judged, next_verdict, answers, heard, pairs_of, sent_on, pairs_from, pairs_on, all_pairs}
use Rattle.pz_match.specs.devices.Tallies.{GroupsView}
use Rattle.pz_match.specs.devices.Holding.{Holds}
use Rattle.pz_match.specs.devices.Asking.{renewed}
use Rattle.pz_match.specs.devices.Updating.{Replaced}
use Rattle.pz_match.specs.devices.Ordering.{SendBefore, ReceiveBefore, Ordered}
use Rattle.pz_match.proofs.Sums.{get_upto, length_upto}
use Rattle.pz_match.proofs.Sought.{numbered_at}
use Rattle.pz_match.proofs.Replacing.{all_new}
use Rattle.pz_match.proofs.Telling.{all_flat, heard_ends}

module _ {X : Type 0} (R : X → X → Type 0) where
  pairs_head : (x : X) (xs : List X) → AllPairs R (x ∷ xs) → All (R x) xs
  pairs_head x xs all = λ k d within. all 0 (suc k) d (omega arith) (omega (arith, within))

  pairs_tail : (x : X) (xs : List X) → AllPairs R (x ∷ xs) → AllPairs R xs
  pairs_tail x xs all = λ i j d before within. all (suc i) (suc j) d (omega (arith, before)) (omega (arith, within))

  pairs_none : AllPairs R []
  pairs_none = λ i j d before within. absurd (omega (arith, within))

  pairs_append : (xs ys : List X) → AllPairs R xs → AllPairs R ys → All (λ x. All (R x) ys) xs → AllPairs R (xs ++ ys)
  pairs_append [] ys firsts lasts across = lasts
  pairs_append (x ∷ xs) ys firsts lasts across =
      AllPairs-cons R x (xs ++ ys) (All-append (R x) xs ys (pairs_head x xs firsts) (All-head (λ (z : X). All (R z) ys) x xs across))
      (pairs_append xs ys (pairs_tail x xs firsts) lasts (All-tail (λ (z : X). All (R z) ys) x xs across))

-- in order where each part is, and the parts are in order among themselves: each part has the mark of its place
module _ {X Y : Type 0} (f : X → List Y) (Q : X → Y → Type 0) (S : X → X → Type 0) (R : Y → Y → Type 0) (across : (x z : X) (y u : Y) → S x z → Q x y → Q z u → R y u) where
  pub pairs_flat : (xs : List X) → AllPairs S xs → All (λ x. AllPairs R (f x)) xs → All (λ x. All (Q x) (f x)) xs → AllPairs R (flat_map f xs)
  pairs_flat [] ordered each marked = pairs_none R
  pairs_flat (x ∷ xs) ordered each marked =
      pairs_append R (f x) (flat_map f xs) (All-head (λ x. AllPairs R (f x)) x xs each) (pairs_flat xs (pairs_tail S x xs ordered) (All-tail (λ x. AllPairs R (f x)) x xs each) (All-tail (λ x. All (Q x) (f x)) x xs marked))
      (before xs (pairs_head S x xs ordered) (All-tail (λ x. All (Q x) (f x)) x xs marked))
    where
      before : (zs : List X) → All (S x) zs → All (λ x. All (Q x) (f x)) zs → All (λ y. All (R y) (flat_map f zs)) (f x)
      before [] later marks = λ k d within j e below. absurd (omega (arith, below))
      before (z ∷ zs) later marks = λ k d within.
          All-append (R (get_or (f x) k d)) (f z) (flat_map f zs)
          (λ j e below. across x z (get_or (f x) k d) (get_or (f z) j e) (All-head (S x) z zs later) (All-head (λ x. All (Q x) (f x)) x xs marked k d within) (All-head (λ x. All (Q x) (f x)) z zs marks j e below))
          (before zs (All-tail (S x) z zs later) (All-tail (λ x. All (Q x) (f x)) z zs marks) k d within)

-- The receives of one process

module _ (s : Sender) (g p : ℕ) where
  answers_after : (r : Receiver) (v : Verdict) (rows : List Row) (rs : List Receiving) → r.end.process ≡ p → All (λ q. q.receiver.end.process ≡ p) rs → All (λ q. PlaceBefore r.end.place q.receiver.end.place) rs
      → All (Before (judged s r v)) (answers s g rows rs)
  answers_after r v rows [] own owns later = All-nil (Before (judged s r v))
  answers_after r v rows (x ∷ rs) own owns later =
      by (nat_eq x.group g) x.receiver.conditional (λ ys. answers_after r v ys rs own (All-tail (λ (q : Receiving). q.receiver.end.process ≡ p) x rs owns) (All-tail (λ (q : Receiving). PlaceBefore r.end.place q.receiver.end.place) x rs later))
    where
      here : (u : Verdict) → Before (judged s r v) (judged s x.receiver u)
      here u = inr (refl, inr (refl, inr (own ∙ sym (All-head (λ (q : Receiving). q.receiver.end.process ≡ p) x rs owns), All-head (λ (q : Receiving). PlaceBefore r.end.place q.receiver.end.place) x rs later)))

      by : (b c : Bool) → ((ys : List Row) → All (Before (judged s r v)) (answers s g ys rs))
          → All (Before (judged s r v)) (if b then (if c then judged s x.receiver (next_verdict rows) ∷ answers s g (drop 1 rows) rs else judged s x.receiver Yes ∷ answers s g rows rs) else answers s g rows rs)
      by true true rest = All-cons (Before (judged s r v)) (judged s x.receiver (next_verdict rows)) (answers s g (drop 1 rows) rs) (here (next_verdict rows)) (rest (drop 1 rows))
      by true false rest = All-cons (Before (judged s r v)) (judged s x.receiver Yes) (answers s g rows rs) (here Yes) (rest rows)
      by false c rest = rest rows

  answers_ordered : (rows : List Row) (rs : List Receiving) → All (λ q. q.receiver.end.process ≡ p) rs → AllPairs ReceiveBefore rs → AllPairs Before (answers s g rows rs)
  answers_ordered rows [] owns ordered = pairs_none Before
  answers_ordered rows (x ∷ rs) owns ordered = by (nat_eq x.group g) x.receiver.conditional (λ ys. answers_ordered ys rs (All-tail (λ (q : Receiving). q.receiver.end.process ≡ p) x rs owns) (pairs_tail ReceiveBefore x rs ordered))
    where
      first : (u : Verdict) (ys : List Row) → All (Before (judged s x.receiver u)) (answers s g ys rs)
      first u ys = answers_after x.receiver u ys rs (All-head (λ (q : Receiving). q.receiver.end.process ≡ p) x rs owns) (All-tail (λ (q : Receiving). q.receiver.end.process ≡ p) x rs owns) (pairs_head ReceiveBefore x rs ordered)

      by : (b c : Bool) → ((ys : List Row) → AllPairs Before (answers s g ys rs))
          → AllPairs Before (if b then (if c then judged s x.receiver (next_verdict rows) ∷ answers s g (drop 1 rows) rs else judged s x.receiver Yes ∷ answers s g rows rs) else answers s g rows rs)
      by true true rest = AllPairs-cons Before (judged s x.receiver (next_verdict rows)) (answers s g (drop 1 rows) rs) (first (next_verdict rows) (drop 1 rows)) (rest (drop 1 rows))
      by true false rest = AllPairs-cons Before (judged s x.receiver Yes) (answers s g rows rs) (first Yes rows) (rest rows)
      by false c rest = rest rows

module _ (groups : GroupsView) (all : List Kept) (holds : Holds groups all) (ordered : All Ordered all) where
  -- one process stands before another
  rising : AllPairs (λ (e x : Kept). e.process < x.process) all
  rising i j d before within =
      let a = numbered_at groups all holds i (get_or all i d) (slice_get-get_or all i d (omega (arith, before, within))) in
      let b = numbered_at groups all holds j (get_or all j d) (slice_get-get_or all j d within) in
      omega (arith, a, b, before)

  heard_ordered : (s : Sending) → All (λ x. AllPairs Before (heard s x)) all
  heard_ordered s k d lt = by (nat_eq (get_or all k d).process s.sender.end.process)
    where
      by : (b : Bool) → AllPairs Before (if b then [] else answers s.sender s.group (rows_at (get_or all k d).process s.rows) (get_or all k d).receives)
      by true = pairs_none Before
      by false = answers_ordered s.sender s.group (get_or all k d).process (rows_at (get_or all k d).process s.rows) (get_or all k d).receives (holds.sound k d lt).receives_own (ordered k d lt).receives

  abbrev Of : Sending → Kept → Judged → Type 0
  Of s x q = (q.sender ≡ s.sender) × (q.receiver.end.process ≡ x.process)

  of_ordered : (s : Sending) → AllPairs Before (pairs_of all s)
  of_ordered s =
      pairs_flat (heard s) (Of s) (λ (e x : Kept). e.process < x.process) Before
      (λ e x q u less a b. inr (ap (λ (z : Sender). z.wire) (a.0 ∙ sym b.0), inr (ap (λ (z : Sender). z.end) (a.0 ∙ sym b.0), inl (let m = a.1 in let n = b.1 in omega (arith, less, m, n)))))
      all rising (heard_ordered s) (λ k d lt. heard_ends s (get_or all k d) (holds.sound k d lt).receives_own)

  -- all pairs of a send are of it
  of_send : (s : Sending) → All (λ q. q.sender ≡ s.sender) (pairs_of all s)
  of_send s = all_flat (λ q. q.sender ≡ s.sender) (heard s) all (λ k d lt. All-weaker (Of s (get_or all k d)) (λ q. q.sender ≡ s.sender) (λ q ends. ends.0) (heard s (get_or all k d)) (heard_ends s (get_or all k d) (holds.sound k d lt).receives_own))

  module _ (w : ℕ) where
    abbrev On : Sending → Judged → Type 0
    On s q = (q.sender ≡ s.sender) × (q.sender.wire ≡ w)

    on_send : (s : Sending) → All (On s) (sent_on all w s)
    on_send s = by (nat_eq s.sender.wire w) refl
      where
        by : (b : Bool) → nat_eq s.sender.wire w ≡ b → All (On s) (if b then pairs_of all s else [])
        by true is = All-weaker (λ q. q.sender ≡ s.sender) (On s) (λ q same. (same, ap (λ (z : Sender). z.wire) same ∙ eqb-true s.sender.wire w is)) (pairs_of all s) (of_send s)
        by false is = All-nil (On s)

    on_ordered : (s : Sending) → AllPairs Before (sent_on all w s)
    on_ordered s = by (nat_eq s.sender.wire w)
      where
        by : (b : Bool) → AllPairs Before (if b then pairs_of all s else [])
        by true = of_ordered s
        by false = pairs_none Before

    from_ordered : (k : ℕ) (d : Kept) → k < length all → AllPairs Before (pairs_from all w (get_or all k d))
    from_ordered k d lt =
        pairs_flat (sent_on all w) On (λ (s t : Sending). (s.sender.end.process ≡ t.sender.end.process) × SendBefore s t) Before
        (λ s t q u less a b. inr (a.1 ∙ sym b.1, inl (inr (ap (λ (z : Sender). z.end.process) a.0 ∙ (less.0 ∙ sym (ap (λ (z : Sender). z.end.process) b.0)), placed s t q u a.0 b.0 less.1))))
        (get_or all k d).sends same (λ n c under. on_ordered (get_or (get_or all k d).sends n c)) (λ n c under. on_send (get_or (get_or all k d).sends n c))
      where
        placed : (s t : Sending) (q u : Judged) → q.sender ≡ s.sender → u.sender ≡ t.sender → SendBefore s t → PlaceBefore q.sender.end.place u.sender.end.place
        placed s t q u a b less = subst (λ (z : Sender). PlaceBefore z.end.place u.sender.end.place) (sym a) (subst (λ (z : Sender). PlaceBefore s.sender.end.place z.end.place) (sym b) less)

        same : AllPairs (λ (s t : Sending). (s.sender.end.process ≡ t.sender.end.process) × SendBefore s t) (get_or all k d).sends
        same i j c before within =
            let own = (holds.sound k d lt).sends_own in
            (own i c (omega (arith, before, within)) ∙ sym (own j c within), (ordered k d lt).sends i j c before within)

    abbrev At : Kept → Judged → Type 0
    At e q = (q.sender.end.process ≡ e.process) × (q.sender.wire ≡ w)

    on_process : (k : ℕ) (d : Kept) → k < length all → All (At (get_or all k d)) (pairs_from all w (get_or all k d))
    on_process k d lt =
        all_flat (At (get_or all k d)) (sent_on all w) (get_or all k d).sends
        (λ n c under. All-weaker (On (get_or (get_or all k d).sends n c)) (At (get_or all k d)) (λ q on. (ap (λ (z : Sender). z.end.process) on.0 ∙ (holds.sound k d lt).sends_own n c under, on.1)) (sent_on all w (get_or (get_or all k d).sends n c)) (on_send (get_or (get_or all k d).sends n c)))

    wire_ordered : AllPairs Before (pairs_on all w)
    wire_ordered =
        pairs_flat (pairs_from all w) At (λ (e x : Kept). e.process < x.process) Before
        (λ e x q u less a b. inr (a.1 ∙ sym b.1, inl (inl (let m = a.0 in let n = b.0 in omega (arith, less, m, n)))))
        all rising from_ordered on_process

    wire_is : All (λ q. q.sender.wire ≡ w) (pairs_on all w)
    wire_is = all_flat (λ q. q.sender.wire ≡ w) (pairs_from all w) all (λ k d lt. All-weaker (At (get_or all k d)) (λ q. q.sender.wire ≡ w) (λ q at. at.1) (pairs_from all w (get_or all k d)) (on_process k d lt))

  pub pairs_ordered : (wires : ℕ) → AllPairs Before (all_pairs all wires)
  pairs_ordered wires =
      pairs_flat (pairs_on all) (λ w q. q.sender.wire ≡ w) (λ v w. v < w) Before (λ v w q u less a b. inl (omega (arith, less, a, b))) (upto wires) up
      (λ k d lt. wire_ordered (get_or (upto wires) k d)) (λ k d lt. wire_is (get_or (upto wires) k d))
    where
      up : AllPairs (λ v w. v < w) (upto wires)
      up i j d before within =
          let m : get_or (upto wires) i d ≡ i = get_or_from_slice_get (upto wires) i i d (get_upto wires i (omega (arith, before, within, length_upto wires))) in
          let n : get_or (upto wires) j d ≡ j = get_or_from_slice_get (upto wires) j j d (get_upto wires j (omega (arith, within, length_upto wires))) in
          omega (arith, m, n, before)

-- After an update

module _ {X Y : Type 0} (R : Y → Y → Type 0) (f : X → Y) where
  pub pairs_seen : (xs : List X) → AllPairs R (map f xs) → AllPairs (λ x z. R (f x) (f z)) xs
  pairs_seen xs all i j d before within =
      subst (λ (y : Y). R y (f (get_or xs j d))) (get_or-map f xs i d (f d) (omega (arith, before, within)))
      (subst (λ (y : Y). R (get_or (map f xs) i (f d)) y) (get_or-map f xs j d (f d) within) (all i j (f d) before (omega (arith, within, length-map xs f))))

  pub pairs_mapped : (xs : List X) → AllPairs (λ x z. R (f x) (f z)) xs → AllPairs R (map f xs)
  pairs_mapped [] all = pairs_none R
  pairs_mapped (x ∷ xs) all =
      AllPairs-cons R (f x) (map f xs) (All-map (R (f x)) f xs (pairs_head (λ x z. R (f x) (f z)) x xs all)) (pairs_mapped xs (pairs_tail (λ x z. R (f x) (f z)) x xs all))

abbrev pub OffersOrdered : List SendOffer → Type 0
OffersOrdered = AllPairs (λ s t. PlaceBefore s.place t.place)

abbrev pub ReceivesOrdered : List ReceiveOffer → Type 0
ReceivesOrdered = AllPairs (λ r q. PlaceBefore r.place q.place)

-- the sends that reach a wire
module _ (p : ℕ) where
  senders_after_one : (place : List ℕ) (ss : List SendOffer) → All (λ (t : SendOffer). PlaceBefore place t.place) ss → All (λ (x : Sender). PlaceBefore place x.end.place) (senders p ss)
  senders_after_one place [] later = All-nil (λ (x : Sender). PlaceBefore place x.end.place)
  senders_after_one place (s ∷ ss) later = by s.wire (senders_after_one place ss (All-tail (λ (t : SendOffer). PlaceBefore place t.place) s ss later))
    where
      by : (w : Option ℕ) → All (λ (x : Sender). PlaceBefore place x.end.place) (senders p ss) → All (λ (x : Sender). PlaceBefore place x.end.place) (option_map_or (λ wire. sender p s wire ∷ []) w [] ++ senders p ss)
      by None rest = rest
      by (Some w) rest = All-cons (λ (x : Sender). PlaceBefore place x.end.place) (sender p s w) (senders p ss) (All-head (λ (t : SendOffer). PlaceBefore place t.place) s ss later) rest

  senders_ordered : (ss : List SendOffer) → OffersOrdered ss → AllPairs (λ (x z : Sender). PlaceBefore x.end.place z.end.place) (senders p ss)
  senders_ordered [] all = pairs_none (λ (x z : Sender). PlaceBefore x.end.place z.end.place)
  senders_ordered (s ∷ ss) all = by s.wire (senders_ordered ss (pairs_tail (λ (s t : SendOffer). PlaceBefore s.place t.place) s ss all))
    where
      by : (w : Option ℕ) → AllPairs (λ (x z : Sender). PlaceBefore x.end.place z.end.place) (senders p ss) → AllPairs (λ (x z : Sender). PlaceBefore x.end.place z.end.place) (option_map_or (λ wire. sender p s wire ∷ []) w [] ++ senders p ss)
      by None rest = rest
      by (Some w) rest = AllPairs-cons (λ (x z : Sender). PlaceBefore x.end.place z.end.place) (sender p s w) (senders p ss) (senders_after_one s.place ss (pairs_head (λ (s t : SendOffer). PlaceBefore s.place t.place) s ss all)) rest

  receivers_after_one : (place : List ℕ) (rs : List ReceiveOffer) → All (λ (t : ReceiveOffer). PlaceBefore place t.place) rs → All (λ (x : Receiver). PlaceBefore place x.end.place) (receivers p rs)
  receivers_after_one place [] later = All-nil (λ (x : Receiver). PlaceBefore place x.end.place)
  receivers_after_one place (r ∷ rs) later = by r.wire (receivers_after_one place rs (All-tail (λ (t : ReceiveOffer). PlaceBefore place t.place) r rs later))
    where
      by : (w : Option ℕ) → All (λ (x : Receiver). PlaceBefore place x.end.place) (receivers p rs) → All (λ (x : Receiver). PlaceBefore place x.end.place) (option_map_or (λ wire. receiver p r wire ∷ []) w [] ++ receivers p rs)
      by None rest = rest
      by (Some w) rest = All-cons (λ (x : Receiver). PlaceBefore place x.end.place) (receiver p r w) (receivers p rs) (All-head (λ (t : ReceiveOffer). PlaceBefore place t.place) r rs later) rest

  receivers_ordered : (rs : List ReceiveOffer) → ReceivesOrdered rs → AllPairs (λ (x z : Receiver). PlaceBefore x.end.place z.end.place) (receivers p rs)
  receivers_ordered [] all = pairs_none (λ (x z : Receiver). PlaceBefore x.end.place z.end.place)
  receivers_ordered (r ∷ rs) all = by r.wire (receivers_ordered rs (pairs_tail (λ (s t : ReceiveOffer). PlaceBefore s.place t.place) r rs all))
    where
      by : (w : Option ℕ) → AllPairs (λ (x z : Receiver). PlaceBefore x.end.place z.end.place) (receivers p rs) → AllPairs (λ (x z : Receiver). PlaceBefore x.end.place z.end.place) (option_map_or (λ wire. receiver p r wire ∷ []) w [] ++ receivers p rs)
      by None rest = rest
      by (Some w) rest = AllPairs-cons (λ (x z : Receiver). PlaceBefore x.end.place z.end.place) (receiver p r w) (receivers p rs) (receivers_after_one r.place rs (pairs_head (λ (s t : ReceiveOffer). PlaceBefore s.place t.place) r rs all)) rest

module _ (says : Verdicts) (p : ℕ) (sends : List SendOffer) (receives : List ReceiveOffer) (g0 g1 : GroupsView) (all new : List Kept) (r : Replaced says p sends receives g0 all g1 new) (within : p < length all) where
  pub ordered_after : OffersOrdered sends → ReceivesOrdered receives → All Ordered all → All Ordered new
  ordered_after ss rs before =
      subst (All Ordered) (sym r.is)
      (all_new says p r.sent r.heard all within Ordered
      (record {
        sends = pairs_seen (λ (x z : Sender). PlaceBefore x.end.place z.end.place) (λ (s : Sending). s.sender) r.sent (subst (AllPairs (λ (x z : Sender). PlaceBefore x.end.place z.end.place)) (sym r.same_sends) (senders_ordered p sends ss));
        receives = pairs_seen (λ (x z : Receiver). PlaceBefore x.end.place z.end.place) (λ (q : Receiving). q.receiver) r.heard (subst (AllPairs (λ (x z : Receiver). PlaceBefore x.end.place z.end.place)) (sym r.same_receives) (receivers_ordered p receives rs));
      })
      (λ k e other is.
      let ok : Ordered e = subst Ordered (get_or_from_slice_get all k e e is) (before k e (slice_get_within all k e is)) in
      record { sends = pairs_mapped SendBefore (renewed says p r.heard) e.sends ok.sends; receives = ok.receives }))
