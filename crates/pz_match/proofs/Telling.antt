-- What callers see of an update: the pairs of other processes stay, those of this one have what the judge says.
use Rattle.std.proofs.Common.{◌≡◌, refl, sym, ap, ℕ, Bool, true, false, ◌&&◌, nat_eq, List, [], ◌∷◌, ◌++◌, drop, get_or, Some, if◌then◌else◌}
use Rattle.std.specs.Prelude.{All, Contains}
use Rattle.std.specs.List.{slice_get, flat_map}
use Rattle.std.proofs.lemmas.List.Elements.{All-append, All-nil, All-cons, All-head, All-tail, Contains-get_or}
use Rattle.std.proofs.lemmas.Option.{slice_get-get_or}
use Rattle.pz_offer.specs.declared.ends.Verdict.TheVariants.{Yes}
use Rattle.pz_match.specs.declared.offers.Sender.{Sender}
use Rattle.pz_match.specs.declared.rows.Row.{Row}
use Rattle.pz_match.specs.declared.kept.Sending.{Sending}
use Rattle.pz_match.specs.declared.kept.Receiving.{Receiving}
use Rattle.pz_match.specs.Judging.{Verdicts, said}
use Rattle.pz_match.specs.Pairs.{Judged}
use Rattle.pz_match.specs.devices.Lists.{upto}
use Rattle.pz_match.specs.devices.Kept.{Kept, rows_at, judged, next_verdict, answers, heard, pairs_of, sent_on, pairs_from, pairs_on, all_pairs}
use Rattle.pz_match.specs.devices.Asking.{asked, row_of}

-- what holds of all joined

module _ {X Y : Type 0} (P : Y → Type 0) (f : X → List Y) where
  pub all_flat : (xs : List X) → All (λ x. All P (f x)) xs → All P (flat_map f xs)
  all_flat [] each = All-nil P
  all_flat (x ∷ xs) each = All-append P (f x) (flat_map f xs) (All-head (λ x. All P (f x)) x xs each) (all_flat xs (All-tail (λ x. All P (f x)) x xs each))

-- every pair of the table, by where it stands
module _ (P : Judged → Type 0) (all : List Kept) (wires : ℕ)
    (each : (i j : ℕ) (e x : Kept) (s : Sending) → slice_get all i ≡ Some e → slice_get all j ≡ Some x → Contains e.sends s → All P (heard s x)) where
  pub all_judged : All P (all_pairs all wires)
  all_judged =
      all_flat P (pairs_on all) (upto wires) (λ k d lt. on_wire (get_or (upto wires) k d))
    where
      on_wire : (w : ℕ) → All P (pairs_on all w)
      on_wire w = all_flat P (pairs_from all w) all (λ i e lt.
          let x : Kept = get_or all i e in
          all_flat P (sent_on all w) x.sends (λ n s below.
          on w (get_or x.sends n s)
          (all_flat P (heard (get_or x.sends n s)) all (λ j d under. each i j x (get_or all j d) (get_or x.sends n s) (slice_get-get_or all i e lt) (slice_get-get_or all j d under) (Contains-get_or x.sends n s below)))))
        where
          on : (w : ℕ) (s : Sending) → All P (pairs_of all s) → All P (sent_on all w s)
          on w s there = by (nat_eq s.sender.wire w)
            where
              by : (b : Bool) → All P (if b then pairs_of all s else [])
              by true = there
              by false = All-nil P

-- the ends of what a send hears
pub heard_ends : (s : Sending) (x : Kept) → All (λ (r : Receiving). r.receiver.end.process ≡ x.process) x.receives → All (λ (q : Judged). (q.sender ≡ s.sender) × (q.receiver.end.process ≡ x.process)) (heard s x)
heard_ends s x own = by (nat_eq x.process s.sender.end.process)
  where
    go : (rows : List Row) (rs : List Receiving) → All (λ (r : Receiving). r.receiver.end.process ≡ x.process) rs → All (λ (q : Judged). (q.sender ≡ s.sender) × (q.receiver.end.process ≡ x.process)) (answers s.sender s.group rows rs)
    go rows [] ok = All-nil (λ (q : Judged). (q.sender ≡ s.sender) × (q.receiver.end.process ≡ x.process))
    go rows (r ∷ rs) ok = step (nat_eq r.group s.group) r.receiver.conditional (λ xs. go xs rs (All-tail (λ (r : Receiving). r.receiver.end.process ≡ x.process) r rs ok))
      where
        here : r.receiver.end.process ≡ x.process
        here = All-head (λ (r : Receiving). r.receiver.end.process ≡ x.process) r rs ok

        step : (b c : Bool) → ((xs : List Row) → All (λ (q : Judged). (q.sender ≡ s.sender) × (q.receiver.end.process ≡ x.process)) (answers s.sender s.group xs rs))
            → All (λ (q : Judged). (q.sender ≡ s.sender) × (q.receiver.end.process ≡ x.process))
            (if b then (if c then judged s.sender r.receiver (next_verdict rows) ∷ answers s.sender s.group (drop 1 rows) rs else judged s.sender r.receiver Yes ∷ answers s.sender s.group rows rs) else answers s.sender s.group rows rs)
        step true true later = All-cons (λ (q : Judged). (q.sender ≡ s.sender) × (q.receiver.end.process ≡ x.process)) (judged s.sender r.receiver (next_verdict rows)) (answers s.sender s.group (drop 1 rows) rs) (refl, here) (later (drop 1 rows))
        step true false later = All-cons (λ (q : Judged). (q.sender ≡ s.sender) × (q.receiver.end.process ≡ x.process)) (judged s.sender r.receiver Yes) (answers s.sender s.group rows rs) (refl, here) (later rows)
        step false c later = later rows

    by : (b : Bool) → All (λ (q : Judged). (q.sender ≡ s.sender) × (q.receiver.end.process ≡ x.process)) (if b then [] else answers s.sender s.group (rows_at x.process s.rows) x.receives)
    by true = All-nil (λ (q : Judged). (q.sender ≡ s.sender) × (q.receiver.end.process ≡ x.process))
    by false = go (rows_at x.process s.rows) x.receives own

-- rows that the judge has just given
module _ (says : Verdicts) (s : Sender) (g p : ℕ) where
  abbrev Told : Judged → Type 0
  Told q = q.verdict ≡ said says q.sender q.receiver

  pub told : (rs : List Receiving) → All Told (answers s g (asked says s g p rs) rs)
  told [] = All-nil Told
  told (r ∷ rs) = by (nat_eq r.group g) r.receiver.conditional refl (told rs)
    where
      by : (b c : Bool) → r.receiver.conditional ≡ c → All Told (answers s g (asked says s g p rs) rs)
          → All Told
          (if b then (if c then judged s r.receiver (next_verdict ((if b && c then row_of says s p r ∷ [] else []) ++ asked says s g p rs)) ∷ answers s g (drop 1 ((if b && c then row_of says s p r ∷ [] else []) ++ asked says s g p rs)) rs
          else judged s r.receiver Yes ∷ answers s g ((if b && c then row_of says s p r ∷ [] else []) ++ asked says s g p rs) rs)
          else answers s g ((if b && c then row_of says s p r ∷ [] else []) ++ asked says s g p rs) rs)
      by true true is later =
          All-cons Told (judged s r.receiver (says s.end s.parcel r.receiver.end)) (answers s g (asked says s g p rs) rs)
          (sym (ap (λ c. if c then says s.end s.parcel r.receiver.end else Yes) is)) later
      by true false is later = All-cons Told (judged s r.receiver Yes) (answers s g (asked says s g p rs) rs) (sym (ap (λ c. if c then says s.end s.parcel r.receiver.end else Yes) is)) later
      by false c is later = later
