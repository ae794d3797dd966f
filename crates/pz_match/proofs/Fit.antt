-- The pairs of a table are those that fit.
use Rattle.std.proofs.Common.{◌≡◌, ◌≢◌, ◌<◌, ◌⊎◌, inl, inr, refl, sym, ◌∙◌, ap, subst, ℕ, zero, suc, Bool, true, false, nat_eq, List, [], ◌∷◌, drop, Some, if◌then◌else◌, arith}
use Rattle.std.specs.Prelude.{All, map, Contains}
use Rattle.std.specs.List.{slice_get, flat_map}
use Rattle.std.proofs.lemmas.Bool.{eq-eqb, ne_eqb, eqb-true, eqb-false, false≢true}
use Rattle.std.proofs.lemmas.List.Elements.{All-nil, All-cons, All-weaker, All-contains, Contains-get_or, Contains-append_left, Contains-append_right, Contains-append_cases}
use Rattle.std.proofs.lemmas.Option.{get_or_from_slice_get, slice_get_within}
use Rattle.pz_offer.specs.declared.ends.Verdict.{Verdict}
use Rattle.pz_offer.specs.declared.ends.Verdict.TheVariants.{Yes}
use Rattle.pz_match.specs.declared.offers.Sender.{Sender}
use Rattle.pz_match.specs.declared.offers.Receiver.{Receiver}
use Rattle.pz_match.specs.declared.rows.Row.{Row}
use Rattle.pz_match.specs.declared.groups.Group.{Group}
use Rattle.pz_match.specs.declared.kept.Sending.{Sending}
use Rattle.pz_match.specs.declared.kept.Receiving.{Receiving}
use Rattle.pz_match.specs.Offers.{Fits}
use Rattle.pz_match.specs.Pairs.{Judged}
use Rattle.pz_match.specs.devices.Lists.{upto}
use Rattle.pz_match.specs.devices.Kept.{Kept, rows_at, judged, next_verdict, answers, heard, pairs_of, sent_on, pairs_from, pairs_on, all_pairs}
use Rattle.pz_match.specs.devices.Tallies.{GroupsView, HasKey, Distinct}
use Rattle.pz_match.specs.devices.Holding.{Holds, Sound, SendKeyed}
use Rattle.pz_match.specs.devices.Updating.{senders_of, receivers_of}
use Rattle.pz_match.proofs.Sums.{get_upto}
use Rattle.pz_match.proofs.Sought.{sound_at}
use Rattle.pz_match.proofs.Fitting.{fits_by_group}
use Rattle.pz_match.proofs.Staying.{wire_below}
use Rattle.pz_match.proofs.Telling.{all_judged}

-- where a pair comes from
pub record From (s : Sending) (x : Kept) (q : Judged) : Type 0 where
  pub receive : Receiving
  pub among : Contains x.receives receive
  pub group : receive.group ≡ s.group
  pub two : x.process ≢ s.sender.end.process
  pub sends : q.sender ≡ s.sender
  pub receives : q.receiver ≡ receive.receiver
  pub free : receive.receiver.conditional ≡ false → q.verdict ≡ Yes

pub all_from : (s : Sending) (x : Kept) → All (From s x) (heard s x)
all_from s x = by (nat_eq x.process s.sender.end.process) refl
  where
    go : (two : x.process ≢ s.sender.end.process) (rows : List Row) (rs : List Receiving) → ((r : Receiving) → Contains rs r → Contains x.receives r) → All (From s x) (answers s.sender s.group rows rs)
    go two rows [] within = All-nil (From s x)
    go two rows (r ∷ rs) within = step (nat_eq r.group s.group) r.receiver.conditional refl refl (λ xs. go two xs rs (λ q there. within q (Contains-append_right (r ∷ []) rs q there)))
      where
        here : Contains x.receives r
        here = within r (0, omega arith, refl)

        step : (b c : Bool) → nat_eq r.group s.group ≡ b → r.receiver.conditional ≡ c → ((xs : List Row) → All (From s x) (answers s.sender s.group xs rs))
            → All (From s x) (if b then (if c then judged s.sender r.receiver (next_verdict rows) ∷ answers s.sender s.group (drop 1 rows) rs else judged s.sender r.receiver Yes ∷ answers s.sender s.group rows rs) else answers s.sender s.group rows rs)
        step true true is asks later =
            All-cons (From s x) (judged s.sender r.receiver (next_verdict rows)) (answers s.sender s.group (drop 1 rows) rs)
            (record { receive = r; among = here; group = eqb-true r.group s.group is; two = two; sends = refl; receives = refl; free = λ none. absurd (false≢true (sym none ∙ asks)) }) (later (drop 1 rows))
        step true false is asks later =
            All-cons (From s x) (judged s.sender r.receiver Yes) (answers s.sender s.group rows rs)
            (record { receive = r; among = here; group = eqb-true r.group s.group is; two = two; sends = refl; receives = refl; free = λ none. refl }) (later rows)
        step false c is asks later = later rows

    by : (b : Bool) → nat_eq x.process s.sender.end.process ≡ b → All (From s x) (if b then [] else answers s.sender s.group (rows_at x.process s.rows) x.receives)
    by true is = All-nil (From s x)
    by false is = go (eqb-false x.process s.sender.end.process is) (rows_at x.process s.rows) x.receives (λ r there. there)

-- each that is in the group is there
pub all_answered : (s : Sender) (g : ℕ) (rows : List Row) (rs : List Receiving) (r : Receiving) → Contains rs r → r.group ≡ g → (v : Verdict) × Contains (answers s g rows rs) (judged s r.receiver v)
all_answered s g rows [] r (k, lt, is) group = absurd (omega (arith, lt))
all_answered s g rows (x ∷ rs) r (zero, lt, is) group = by (nat_eq x.group g) (eq-eqb x.group g (ap (λ (z : Receiving). z.group) is ∙ group)) x.receiver.conditional
  where
    first : (v : Verdict) (more : List Judged) → Contains (judged s x.receiver v ∷ more) (judged s r.receiver v)
    first v more = (0, omega arith, ap (λ (z : Receiving). judged s z.receiver v) is)

    by : (b : Bool) → b ≡ true → (c : Bool)
        → (v : Verdict) × Contains (if b then (if c then judged s x.receiver (next_verdict rows) ∷ answers s g (drop 1 rows) rs else judged s x.receiver Yes ∷ answers s g rows rs) else answers s g rows rs) (judged s r.receiver v)
    by true same true = (next_verdict rows, first (next_verdict rows) (answers s g (drop 1 rows) rs))
    by true same false = (Yes, first Yes (answers s g rows rs))
    by false same c = absurd (false≢true same)
all_answered s g rows (x ∷ rs) r (suc k, lt, is) group = by (nat_eq x.group g) x.receiver.conditional (λ ys. all_answered s g ys rs r (k, omega (arith, lt), is) group)
  where
    by : (b c : Bool) → ((ys : List Row) → (v : Verdict) × Contains (answers s g ys rs) (judged s r.receiver v))
        → (v : Verdict) × Contains (if b then (if c then judged s x.receiver (next_verdict rows) ∷ answers s g (drop 1 rows) rs else judged s x.receiver Yes ∷ answers s g rows rs) else answers s g rows rs) (judged s r.receiver v)
    by true true later = let h = later (drop 1 rows) in (h.0, Contains-append_right (judged s x.receiver (next_verdict rows) ∷ []) (answers s g (drop 1 rows) rs) (judged s r.receiver h.0) h.1)
    by true false later = let h = later rows in (h.0, Contains-append_right (judged s x.receiver Yes ∷ []) (answers s g rows rs) (judged s r.receiver h.0) h.1)
    by false c later = later rows

-- where an offer comes from
module _ {X Y : Type 0} (f : Kept → List X) (g : X → Y) where
  pub among_from : (all : List Kept) (y : Y) → Contains (flat_map (λ e. map g (f e)) all) y → (i : ℕ) × (e : Kept) × (x : X) × (slice_get all i ≡ Some e) × Contains (f e) x × (g x ≡ y)
  among_from [] y (k, lt, is) = absurd (omega (arith, lt))
  among_from (e ∷ all) y there = by (Contains-append_cases (map g (f e)) (flat_map (λ x. map g (f x)) all) y there) (among_from all y)
    where
      back : (xs : List X) → Contains (map g xs) y → (x : X) × Contains xs x × (g x ≡ y)
      back [] (k, lt, is) = absurd (omega (arith, lt))
      back (x ∷ xs) (zero, lt, is) = (x, (0, omega arith, refl), is)
      back (x ∷ xs) (suc k, lt, is) = let h = back xs (k, omega (arith, lt), is) in (h.0, Contains-append_right (x ∷ []) xs h.0 h.1, h.2)

      by : Contains (map g (f e)) y ⊎ Contains (flat_map (λ x. map g (f x)) all) y → (Contains (flat_map (λ x. map g (f x)) all) y → (i : ℕ) × (e : Kept) × (x : X) × (slice_get all i ≡ Some e) × Contains (f e) x × (g x ≡ y))
          → (i : ℕ) × (z : Kept) × (x : X) × (slice_get (e ∷ all) i ≡ Some z) × Contains (f z) x × (g x ≡ y)
      by (inl here) later = let h = back (f e) here in (0, e, h.0, refl, h.1, h.2)
      by (inr there) later = let h = later there in (suc h.0, h.1, h.2, h.3, h.4, h.5)

module _ {X Y : Type 0} (f : X → List Y) where
  pub among_flat : (xs : List X) (x : X) (y : Y) → Contains xs x → Contains (f x) y → Contains (flat_map f xs) y
  among_flat [] x y (k, lt, is) there = absurd (omega (arith, lt))
  among_flat (z ∷ zs) x y (zero, lt, is) there = Contains-append_left (f z) (flat_map f zs) y (subst (λ (w : X). Contains (f w) y) (sym is) there)
  among_flat (z ∷ zs) x y (suc k, lt, is) there = Contains-append_right (f z) (flat_map f zs) y (among_flat zs x y (k, omega (arith, lt), is) there)

among_at : {X : Type 0} (xs : List X) (i : ℕ) (x : X) → slice_get xs i ≡ Some x → Contains xs x
among_at xs i x is = subst (Contains xs) (get_or_from_slice_get xs i x x is) (Contains-get_or xs i x (slice_get_within xs i x is))

module _ (groups : GroupsView) (all : List Kept) (holds : Holds groups all) (distinct : Distinct groups.groups) (within : All (λ (x : Group). x.wire < groups.wires) groups.groups) where
  -- of a pair that stands there
  pub record Sits (q : Judged) : Type 0 where
    pub sends : Contains (senders_of all) q.sender
    pub receives : Contains (receivers_of all) q.receiver
    pub fit : Fits q.sender q.receiver
    pub free : q.receiver.conditional ≡ false → q.verdict ≡ Yes

  pub all_sit : (wires : ℕ) → All Sits (all_pairs all wires)
  all_sit wires = all_judged Sits all wires each
    where
      each : (i j : ℕ) (e x : Kept) (s : Sending) → slice_get all i ≡ Some e → slice_get all j ≡ Some x → Contains e.sends s → All Sits (heard s x)
      each i j e x s at_i at_j among = All-weaker (From s x) Sits one (heard s x) (all_from s x)
        where
          ok_e : Sound groups all e
          ok_e = sound_at groups all holds i e at_i

          ok_x : Sound groups all x
          ok_x = sound_at groups all holds j x at_j

          one : (q : Judged) → From s x q → Sits q
          one q from =
              let key_s = All-contains (SendKeyed groups) e.sends s ok_e.sends_keyed among in
              let key_r = All-contains (λ (r : Receiving). HasKey groups.groups r.group r.receiver.wire r.receiver.message r.receiver.count) x.receives from.receive ok_x.receives_keyed from.among in
              let own_r : from.receive.receiver.end.process ≡ x.process = All-contains (λ (r : Receiving). r.receiver.end.process ≡ x.process) x.receives from.receive ok_x.receives_own from.among in
              let two : s.sender.end.process ≢ from.receive.receiver.end.process = λ same. from.two (sym own_r ∙ sym same) in
              record {
                sends = subst (Contains (senders_of all)) (sym from.sends) (among_flat (λ (k : Kept). map (λ z. z.sender) k.sends) all e s.sender (among_at all i e at_i) (mapped (λ (z : Sending). z.sender) e.sends s among));
                receives = subst (Contains (receivers_of all)) (sym from.receives) (among_flat (λ (k : Kept). map (λ z. z.receiver) k.receives) all x from.receive.receiver (among_at all j x at_j) (mapped (λ (z : Receiving). z.receiver) x.receives from.receive from.among));
                fit = subst (λ (r : Receiver). Fits q.sender r) (sym from.receives) (subst (λ (z : Sender). Fits z from.receive.receiver) (sym from.sends) (fits_by_group groups.groups s.sender s.group from.receive key_s key_r from.group two));
                free = λ none. from.free (ap (λ (r : Receiver). r.conditional) (sym from.receives) ∙ none);
              }
            where
              mapped : {X Y : Type 0} (f : X → Y) (xs : List X) (x : X) → Contains xs x → Contains (map f xs) (f x)
              mapped f [] x (k, lt, is) = absurd (omega (arith, lt))
              mapped f (z ∷ zs) x (zero, lt, is) = (0, omega arith, ap f is)
              mapped f (z ∷ zs) x (suc k, lt, is) = Contains-append_right (f z ∷ []) (map f zs) (f x) (mapped f zs x (k, omega (arith, lt), is))

  pub every : (s : Sender) (r : Receiver) → Contains (senders_of all) s → Contains (receivers_of all) r → Fits s r → (v : Verdict) × Contains (all_pairs all groups.wires) (record { sender = s; receiver = r; verdict = v })
  every s r sends receives fit = (found.0, subst (λ (z : Sender). Contains (all_pairs all groups.wires) (judged z r found.0)) a.5 (subst (λ (z : Receiver). Contains (all_pairs all groups.wires) (judged a.2.sender z found.0)) b.5 there))
    where
      a : (i : ℕ) × (e : Kept) × (x : Sending) × (slice_get all i ≡ Some e) × Contains e.sends x × (x.sender ≡ s)
      a = among_from (λ (e : Kept). e.sends) (λ (x : Sending). x.sender) all s sends

      b : (i : ℕ) × (e : Kept) × (x : Receiving) × (slice_get all i ≡ Some e) × Contains e.receives x × (x.receiver ≡ r)
      b = among_from (λ (e : Kept). e.receives) (λ (x : Receiving). x.receiver) all r receives

      ok_a : Sound groups all a.1
      ok_a = sound_at groups all holds a.0 a.1 a.3

      ok_b : Sound groups all b.1
      ok_b = sound_at groups all holds b.0 b.1 b.3

      fits : Fits a.2.sender b.2.receiver
      fits = subst (λ (z : Sender). Fits z b.2.receiver) (sym a.5) (subst (Fits s) (sym b.5) fit)

      key_a : SendKeyed groups a.2
      key_a = All-contains (SendKeyed groups) a.1.sends a.2 ok_a.sends_keyed a.4

      key_b : HasKey groups.groups b.2.group b.2.receiver.wire b.2.receiver.message b.2.receiver.count
      key_b = All-contains (λ (x : Receiving). HasKey groups.groups x.group x.receiver.wire x.receiver.message x.receiver.count) b.1.receives b.2 ok_b.receives_keyed b.4

      same_group : b.2.group ≡ a.2.group
      same_group = distinct b.2.group a.2.group b.2.receiver.wire b.2.receiver.message b.2.receiver.count key_b
          (record { group = key_a.group; there = key_a.there; wire_is = key_a.wire_is ∙ fits.wire; message_is = key_a.message_is ∙ fits.message; count_is = key_a.count_is ∙ fits.values })

      own_a : a.2.sender.end.process ≡ a.1.process
      own_a = All-contains (λ (x : Sending). x.sender.end.process ≡ a.1.process) a.1.sends a.2 ok_a.sends_own a.4

      own_b : b.2.receiver.end.process ≡ b.1.process
      own_b = All-contains (λ (x : Receiving). x.receiver.end.process ≡ b.1.process) b.1.receives b.2 ok_b.receives_own b.4

      apart : nat_eq b.1.process a.2.sender.end.process ≡ false
      apart = ne_eqb b.1.process a.2.sender.end.process (λ e. fits.two (sym e ∙ sym own_b))

      found : (v : Verdict) × Contains (answers a.2.sender a.2.group (rows_at b.1.process a.2.rows) b.1.receives) (judged a.2.sender b.2.receiver v)
      found = all_answered a.2.sender a.2.group (rows_at b.1.process a.2.rows) b.1.receives b.2 b.4 same_group

      in_heard : Contains (heard a.2 b.1) (judged a.2.sender b.2.receiver found.0)
      in_heard = subst (λ (c : Bool). Contains (if c then [] else answers a.2.sender a.2.group (rows_at b.1.process a.2.rows) b.1.receives) (judged a.2.sender b.2.receiver found.0)) (sym apart) found.1

      of_send : Contains (pairs_of all a.2) (judged a.2.sender b.2.receiver found.0)
      of_send = among_flat (heard a.2) all b.1 (judged a.2.sender b.2.receiver found.0) (among_at all b.0 b.1 b.3) in_heard

      w : ℕ
      w = a.2.sender.wire

      on_wire : Contains (sent_on all a.2.sender.wire a.2) (judged a.2.sender b.2.receiver found.0)
      on_wire = subst (λ (c : Bool). Contains (if c then pairs_of all a.2 else []) (judged a.2.sender b.2.receiver found.0)) (sym (eq-eqb a.2.sender.wire a.2.sender.wire refl)) of_send

      in_wires : Contains (upto groups.wires) a.2.sender.wire
      in_wires = among_at (upto groups.wires) a.2.sender.wire a.2.sender.wire (get_upto groups.wires a.2.sender.wire (wire_below groups all holds within a.2 key_a))

      there : Contains (all_pairs all groups.wires) (judged a.2.sender b.2.receiver found.0)
      there =
          among_flat (pairs_on all) (upto groups.wires) a.2.sender.wire (judged a.2.sender b.2.receiver found.0) in_wires
          (among_flat (pairs_from all a.2.sender.wire) all a.1 (judged a.2.sender b.2.receiver found.0) (among_at all a.0 a.1 a.3)
          (among_flat (sent_on all a.2.sender.wire) a.1.sends a.2 (judged a.2.sender b.2.receiver found.0) a.4 on_wire))
