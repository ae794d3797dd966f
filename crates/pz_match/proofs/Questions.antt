-- How many questions an update asks.
use Rattle.std.proofs.Common.{◌≡◌, ◌≢◌, ◌<◌, ◌+◌, refl, sym, ◌∙◌, ap, ℕ, Bool, true, false, ◌&&◌, ◌||◌, nat_eq, List, [], ◌∷◌, ◌++◌, length, drop, get_or, set, Some, if◌then◌else◌, arith}
use Rattle.std.specs.Prelude.{All, sum_by, count_by, filter, map}
use Rattle.std.specs.List.{flat_map, slice_get}
use Rattle.std.proofs.lemmas.Bool.{eq-eqb, ne_eqb}
use Rattle.std.proofs.lemmas.List.{length-map, length-set, get_or-map, get_or-set_same}
use Rattle.std.proofs.lemmas.List.Elements.{All-head, All-tail, All-nil, All-append, All-weaker, filter-append}
use Rattle.std.proofs.lemmas.List.Concat.{length-flat_map}
use Rattle.std.proofs.lemmas.List.Sums.{sum_by-cons, sum_by-set}
use Rattle.pz_offer.specs.declared.ends.Verdict.TheVariants.{Yes}
use Rattle.pz_match.specs.declared.offers.Sender.{Sender}
use Rattle.pz_match.specs.declared.rows.Row.{Row}
use Rattle.pz_match.specs.declared.kept.Sending.{Sending}
use Rattle.pz_match.specs.declared.kept.Receiving.{Receiving}
use Rattle.pz_match.specs.declared.groups.Group.{Group}
use Rattle.pz_match.specs.Judging.{Verdicts}
use Rattle.pz_match.specs.Pairs.{Judged, touches, questions}
use Rattle.pz_match.specs.devices.Lists.{upto}
use Rattle.pz_match.specs.devices.Kept.{Kept, asks_in, rows_at, judged, next_verdict, answers, heard, pairs_of, sent_on, pairs_from, pairs_on, all_pairs}
use Rattle.pz_match.specs.devices.Tallies.{GroupsView}
use Rattle.pz_match.specs.devices.Asking.{asked, renewed, rows_written, all_written}
use Rattle.pz_match.specs.devices.Holding.{Holds, Sound, Answered, SendKeyed}
use Rattle.pz_match.specs.devices.Updating.{renewed_in, silent}
use Rattle.pz_match.proofs.Sums.{filter_flat, sum_same, sum_mapped, sum_flat, regroup}
use Rattle.pz_match.proofs.Answered.{rows_by_process, one_of}
use Rattle.pz_match.proofs.Replacing.{forgotten, rows_forgotten, rows_own, all_asked}
use Rattle.pz_match.proofs.Sought.{numbered_at}
use Rattle.pz_match.proofs.Staying.{wire_below}

length_filtered : {X : Type 0} (p : X → Bool) (x : X) (xs : List X) → length (filter p (x ∷ xs)) ≡ (if p x then 1 else 0) + length (filter p xs)
length_filtered p x xs = by (p x)
  where
    by : (b : Bool) → length (if b then x ∷ filter p xs else filter p xs) ≡ (if b then 1 else 0) + length (filter p xs)
    by true = omega arith
    by false = omega arith

length_flat : {X Y : Type 0} (p : Y → Bool) (f : X → List Y) (xs : List X) → length (filter p (flat_map f xs)) ≡ sum_by (λ x. length (filter p (f x))) xs
length_flat p f xs = ap length (filter_flat f p xs) ∙ length-flat_map (λ x. filter p (f x)) xs

joined : (t : Bool) (m n : ℕ) → (if t then m else 0) + (if t then n else 0) ≡ (if t then m + n else 0)
joined true m n = refl
joined false m n = refl

one_if : (t c : Bool) → ◌≡◌ {A = ℕ} (if t && c then 1 else 0) (if t then (if c then 1 else 0) else 0)
one_if true c = refl
one_if false c = refl

module _ (p : ℕ) where
  -- A send with the receives of one process

  module _ (s : Sender) (g q : ℕ) where
    abbrev near : Bool
    near = nat_eq s.end.process p || nat_eq q p

    asked_about : (rs : List Receiving) (rows : List Row) → All (λ r. r.receiver.end.process ≡ q) rs → length (questions p (answers s g rows rs)) ≡ (if near then count_by (asks_in g) rs else 0)
    asked_about [] rows own = by near
      where
        by : (b : Bool) → ◌≡◌ {A = ℕ} 0 (if b then 0 else 0)
        by true = refl
        by false = refl
    asked_about (r ∷ rs) rows own =
        by (nat_eq r.group g) r.receiver.conditional refl rows (λ xs. asked_about rs xs (All-tail (λ (r : Receiving). r.receiver.end.process ≡ q) r rs own))
        ∙ ap (λ n. if near then n else 0) (sym (sum_by-cons (λ x. if asks_in g x then 1 else 0) r rs))
      where
        first : (v : _) (c : Bool) (ps : List Judged) → r.receiver.conditional ≡ c → length (questions p (judged s r.receiver v ∷ ps)) ≡ (if near then (if c then 1 else 0) else 0) + length (questions p ps)
        first v c ps is =
            length_filtered (λ k. touches p k && k.receiver.conditional) (judged s r.receiver v) ps
            ∙ ap (λ n. n + length (questions p ps))
            (ap (λ m. if (nat_eq s.end.process p || nat_eq m p) && r.receiver.conditional then 1 else 0) (All-head (λ (r : Receiving). r.receiver.end.process ≡ q) r rs own)
            ∙ (ap (λ b. if near && b then 1 else 0) is ∙ one_if near c))

        by : (b c : Bool) → r.receiver.conditional ≡ c → (rows : List Row) → ((xs : List Row) → length (questions p (answers s g xs rs)) ≡ (if near then count_by (asks_in g) rs else 0))
            → length (questions p (if b then (if c then judged s r.receiver (next_verdict rows) ∷ answers s g (drop 1 rows) rs else judged s r.receiver Yes ∷ answers s g rows rs) else answers s g rows rs))
            ≡ (if near then (if b && c then 1 else 0) + count_by (asks_in g) rs else 0)
        by true true is rows later =
            first (next_verdict rows) true (answers s g (drop 1 rows) rs) is
            ∙ (ap (λ n. (if near then 1 else 0) + n) (later (drop 1 rows)) ∙ joined near 1 (count_by (asks_in g) rs))
        by true false is rows later =
            first Yes false (answers s g rows rs) is
            ∙ (ap (λ n. (if near then 0 else 0) + n) (later rows) ∙ joined near 0 (count_by (asks_in g) rs))
        by false c is rows later = later rows ∙ ap (λ n. if near then n else 0) (omega arith)

  module _ (groups : GroupsView) (all : List Kept) (holds : Holds groups all) (own : Kept) (there : slice_get all p ≡ Some own) where
    heard_about : (s : Sending) (x : Kept) → All (λ (r : Receiving). r.receiver.end.process ≡ x.process) x.receives
        → length (rows_at x.process s.rows) ≡ (if nat_eq x.process s.sender.end.process then 0 else count_by (asks_in s.group) x.receives)
        → length (questions p (heard s x)) ≡ (if nat_eq s.sender.end.process p || nat_eq x.process p then length (rows_at x.process s.rows) else 0)
    heard_about s x own rows = by (nat_eq x.process s.sender.end.process) rows
      where
        nought : (t : Bool) → ◌≡◌ {A = ℕ} 0 (if t then 0 else 0)
        nought true = refl
        nought false = refl

        by : (b : Bool) → length (rows_at x.process s.rows) ≡ (if b then 0 else count_by (asks_in s.group) x.receives)
            → length (questions p (if b then [] else answers s.sender s.group (rows_at x.process s.rows) x.receives)) ≡ (if nat_eq s.sender.end.process p || nat_eq x.process p then length (rows_at x.process s.rows) else 0)
        by true is = nought (nat_eq s.sender.end.process p || nat_eq x.process p) ∙ ap (λ n. if nat_eq s.sender.end.process p || nat_eq x.process p then n else 0) (sym is)
        by false is = asked_about s.sender s.group x.process x.receives (rows_at x.process s.rows) own ∙ ap (λ n. if nat_eq s.sender.end.process p || nat_eq x.process p then n else 0) (sym is)

    -- A send with all processes

    all_rows : (rows : List Row) → sum_by (λ (r : Row). 1) rows ≡ length rows
    all_rows [] = refl
    all_rows (r ∷ rows) = omega (arith, sum_by-cons (λ (r : Row). 1) r rows, all_rows rows)

    written : (s : Sending) → Answered all s → sum_by (λ x. if nat_eq s.sender.end.process p || nat_eq x.process p then length (rows_at x.process s.rows) else 0) all ≡ rows_written p s
    written s answered = by (nat_eq s.sender.end.process p)
      where
        by : (b : Bool) → sum_by (λ x. if b || nat_eq x.process p then length (rows_at x.process s.rows) else 0) all ≡ (if b then length s.rows else length (rows_at p s.rows))
        by true =
            sum_same (λ x. length (rows_at x.process s.rows)) (λ x. sum_by (λ (r : Row). 1) (rows_at x.process s.rows)) all (λ k d lt. sym (all_rows (rows_at (get_or all k d).process s.rows)))
            ∙ (rows_by_process (λ v. true) all s.rows holds.numbered answered.within ∙ all_rows s.rows)
        by false =
            one_of (λ x. length (rows_at x.process s.rows)) 0 p p all own (record { at = λ i e is. numbered_at groups all holds i e is ∙ omega arith }) there (omega arith)
            ∙ ap (λ n. length (rows_at n s.rows)) (numbered_at groups all holds p own there)

    asked_of : (s : Sending) → Answered all s → length (questions p (pairs_of all s)) ≡ rows_written p s
    asked_of s answered =
        length_flat (λ k. touches p k && k.receiver.conditional) (heard s) all
        ∙ (sum_same (λ x. length (questions p (heard s x))) (λ x. if nat_eq s.sender.end.process p || nat_eq x.process p then length (rows_at x.process s.rows) else 0) all
        (λ k d lt. heard_about s (get_or all k d) (holds.sound k d lt).receives_own (answered.each k d lt))
        ∙ written s answered)

    -- All pairs

    module _ (within : All (λ (x : Group). x.wire < groups.wires) groups.groups) where
      asked_on : (w : ℕ) → length (questions p (pairs_on all w)) ≡ sum_by (λ s. if nat_eq s.sender.wire w then rows_written p s else 0) (flat_map (λ (e : Kept). e.sends) all)
      asked_on w =
          length_flat (λ k. touches p k && k.receiver.conditional) (pairs_from all w) all
          ∙ (sum_same (λ e. length (questions p (pairs_from all w e))) (λ e. sum_by (λ s. if nat_eq s.sender.wire w then rows_written p s else 0) e.sends) all
          (λ k d lt.
          length_flat (λ k. touches p k && k.receiver.conditional) (sent_on all w) (get_or all k d).sends
          ∙ sum_same (λ s. length (questions p (sent_on all w s))) (λ s. if nat_eq s.sender.wire w then rows_written p s else 0) (get_or all k d).sends (λ n c under. one (get_or (get_or all k d).sends n c) ((holds.sound k d lt).answered n c under)))
          ∙ sym (sum_flat (λ s. if nat_eq s.sender.wire w then rows_written p s else 0) (λ (e : Kept). e.sends) all))
        where
          one : (s : Sending) → Answered all s → length (questions p (sent_on all w s)) ≡ (if nat_eq s.sender.wire w then rows_written p s else 0)
          one s answered = by (nat_eq s.sender.wire w)
            where
              by : (b : Bool) → length (questions p (if b then pairs_of all s else [])) ≡ (if b then rows_written p s else 0)
              by true = asked_of s answered
              by false = refl

      wires_below : All (λ (s : Sending). s.sender.wire < groups.wires) (flat_map (λ (e : Kept). e.sends) all)
      wires_below = go all holds.sound
        where
          go : (xs : List Kept) → All (Sound groups all) xs → All (λ (s : Sending). s.sender.wire < groups.wires) (flat_map (λ (e : Kept). e.sends) xs)
          go [] ok = All-nil (λ (s : Sending). s.sender.wire < groups.wires)
          go (e ∷ xs) ok =
              All-append (λ (s : Sending). s.sender.wire < groups.wires) e.sends (flat_map (λ (e : Kept). e.sends) xs)
              (All-weaker (SendKeyed groups) (λ (s : Sending). s.sender.wire < groups.wires) (wire_below groups all holds within) e.sends (All-head (Sound groups all) e xs ok).sends_keyed)
              (go xs (All-tail (Sound groups all) e xs ok))

      pub questions_counted : length (questions p (all_pairs all groups.wires)) ≡ all_written p all
      questions_counted =
          length_flat (λ k. touches p k && k.receiver.conditional) (pairs_on all) (upto groups.wires)
          ∙ (sum_same (λ w. length (questions p (pairs_on all w))) (λ w. sum_by (λ s. if nat_eq s.sender.wire w then rows_written p s else 0) (flat_map (λ (e : Kept). e.sends) all)) (upto groups.wires) (λ k d lt. asked_on (get_or (upto groups.wires) k d))
          ∙ (regroup (λ (s : Sending). s.sender.wire) (rows_written p) groups.wires (flat_map (λ (e : Kept). e.sends) all) wires_below
          ∙ sum_flat (rows_written p) (λ (e : Kept). e.sends) all))

  -- What an update writes

  module _ (says : Verdicts) (heard : List Receiving) where
    abbrev asks_of : Sending → ℕ
    asks_of s = length (asked says s.sender s.group p heard)

    abbrev asks_in_all : List Kept → ℕ
    asks_in_all = sum_by (λ e. sum_by (λ s. length (asked says s.sender s.group p heard)) e.sends)

    renewed_writes : (s : Sending) → s.sender.end.process ≢ p → rows_written p (renewed says p heard s) ≡ asks_of s
    renewed_writes s foreign =
        ap (λ b. if b then length (forgotten p s.rows ++ asked says s.sender s.group p heard) else length (rows_at p (forgotten p s.rows ++ asked says s.sender s.group p heard))) (ne_eqb s.sender.end.process p foreign)
        ∙ ap length
        (filter-append (λ (r : Row). nat_eq r.process p) (forgotten p s.rows) (asked says s.sender s.group p heard)
        ∙ (λ i. rows_forgotten p s.rows i ++ rows_own p (asked says s.sender s.group p heard) (all_asked says s.sender s.group p (λ (r : Row). r.process ≡ p) (λ r. refl) heard) i))

    module _ (sent : List Sending) (mid : List Kept) (below : p < length mid) (quiet : get_or mid p (silent p) ≡ silent p)
        (own : All (λ (s : Sending). s.sender.end.process ≡ p) sent) (foreign : All (λ (e : Kept). All (λ (s : Sending). s.sender.end.process ≢ p) e.sends) mid) where
      others_write : sum_by (λ e. sum_by (rows_written p) e.sends) (map (renewed_in says p heard) mid) ≡ asks_in_all mid
      others_write =
          sum_mapped (λ (e : Kept). sum_by (rows_written p) e.sends) (renewed_in says p heard) mid
          ∙ sum_same (λ e. sum_by (rows_written p) (map (renewed says p heard) e.sends)) (λ e. sum_by asks_of e.sends) mid
          (λ k d lt.
          sum_mapped (rows_written p) (renewed says p heard) (get_or mid k d).sends
          ∙ sum_same (λ s. rows_written p (renewed says p heard s)) asks_of (get_or mid k d).sends (λ n c under. renewed_writes (get_or (get_or mid k d).sends n c) (foreign k d lt n c under)))

      own_write : sum_by (rows_written p) sent ≡ sum_by (λ s. length s.rows) sent
      own_write = sum_same (rows_written p) (λ s. length s.rows) sent (λ k d lt. ap (λ b. if b then length (get_or sent k d).rows else length (rows_at p (get_or sent k d).rows)) (eq-eqb (get_or sent k d).sender.end.process p (own k d lt)))

      pub update_writes : all_written p (set (map (renewed_in says p heard) mid) p (record { process = p; sends = sent; receives = heard })) ≡ sum_by (λ s. length s.rows) sent + asks_in_all mid
      update_writes =
          let at : get_or (map (renewed_in says p heard) mid) p (silent p) ≡ renewed_in says p heard (silent p)
          = get_or-map (renewed_in says p heard) mid p (silent p) (silent p) below ∙ ap (renewed_in says p heard) quiet in
          let none : sum_by (rows_written p) (get_or (map (renewed_in says p heard) mid) p (silent p)).sends ≡ 0 = ap (λ (e : Kept). sum_by (rows_written p) e.sends) at in
          let whole = sum_by-set (λ (e : Kept). sum_by (rows_written p) e.sends) (map (renewed_in says p heard) mid) p (record { process = p; sends = sent; receives = heard }) (silent p) (omega (arith, below, length-map mid (renewed_in says p heard))) in
          omega (arith, none, whole, others_write, own_write)

-- as the calls below say it
pub update_asks : (says : Verdicts) (p : ℕ) (heard : List Receiving) (sent : List Sending) (all : List Kept) (later : Verdicts) (hears : List Receiving) (mid : List Kept) → p < length all → later ≡ says → hears ≡ heard → mid ≡ set all p (silent p)
    → All (λ (s : Sending). s.sender.end.process ≡ p) sent → All (λ (e : Kept). All (λ (s : Sending). s.sender.end.process ≢ p) e.sends) (set all p (silent p))
    → (before between after : ℕ) → between ≡ before + sum_by (λ s. length s.rows) sent → after ≡ between + sum_by (λ e. sum_by (λ s. length (asked later s.sender s.group p hears)) e.sends) mid
    → after ≡ before + all_written p (set (map (renewed_in says p heard) (set all p (silent p))) p (record { process = p; sends = sent; receives = heard }))
update_asks says p heard sent all later hears mid below same is_heard is_mid own foreign before between after first second =
    let asks : sum_by (λ e. sum_by (λ s. length (asked later s.sender s.group p hears)) e.sends) mid ≡ sum_by (λ e. sum_by (λ s. length (asked says s.sender s.group p heard)) e.sends) (set all p (silent p))
    = λ i. sum_by (λ e. sum_by (λ s. length (asked (same i) s.sender s.group p (is_heard i))) e.sends) (is_mid i) in
    let whole = update_writes p says heard sent (set all p (silent p)) (omega (arith, below, length-set all p (silent p))) (get_or-set_same all p (silent p) (silent p) below) own foreign in
    omega (arith, first, second, asks, whole)
