-- What an update leaves keeps what the offers and groups of a table keep.
use Rattle.std.proofs.Common.{◌≡◌, ◌≢◌, ◌<◌, ◌+◌, ◌⊎◌, inl, inr, refl, sym, ◌∙◌, ap, subst, ℕ, zero, suc, Bool, true, false, not, nat_eq, List, [], ◌∷◌, ◌++◌, length, get_or, set, Some, if◌then◌else◌, arith}
use Rattle.std.specs.Prelude.{All, count_by, filter, map}
use Rattle.std.specs.List.{slice_get, flat_map}
use Rattle.std.proofs.lemmas.Bool.{eqb-true, eq-eqb, ne_eqb, cases_eq}
use Rattle.std.proofs.lemmas.List.{length-set, length-map, get_or-set_same, get_or-set_other, get_or-map, map-set, set-get_or, append-nil}
use Rattle.std.proofs.lemmas.List.Elements.{All-weaker, All-map, All-append, All-filter, All-nil, All-cons, All-head, All-tail, filter-append}
use Rattle.std.proofs.lemmas.List.Sums.{sum_by-cons}
use Rattle.std.proofs.lemmas.Option.{slice_get-get_or, get_or_from_slice_get, slice_get_within}
use Rattle.pz_match.specs.declared.offers.Sender.{Sender}
use Rattle.pz_match.specs.declared.rows.Row.{Row}
use Rattle.pz_match.specs.declared.kept.Sending.{Sending}
use Rattle.pz_match.specs.declared.kept.Receiving.{Receiving}
use Rattle.pz_match.specs.declared.groups.Tally.{Tally}
use Rattle.pz_match.specs.Judging.{Verdicts}
use Rattle.pz_match.specs.devices.Lists.{upto}
use Rattle.pz_match.specs.devices.Kept.{Kept, asks_in, rows_at}
use Rattle.pz_match.specs.devices.Tallies.{GroupsView, Follows, Alike, tally_at, plus, part_of, total_of}
use Rattle.pz_match.specs.devices.Asking.{asked, asked_in, row_of, renewed}
use Rattle.pz_match.specs.devices.Holding.{Holds, Sound, Answered, SendKeyed, ReceiveKeyed}
use Rattle.pz_match.specs.devices.Updating.{renewed_in, silent, other_offers}
use Rattle.pz_match.proofs.Sums.{get_upto}
use Rattle.pz_match.proofs.Answered.{Numbered}
use Rattle.pz_match.proofs.Offered.{send_keyed, receive_keyed}
use Rattle.pz_match.proofs.Sought.{numbered_at}

count_cons : {X : Type 0} (p : X → Bool) (x : X) (xs : List X) → count_by p (x ∷ xs) ≡ (if p x then 1 else 0) + count_by p xs
count_cons p x xs = sum_by-cons (λ y. if p y then 1 else 0) x xs

-- What is asked

module _ (says : Verdicts) (s : Sender) (g q : ℕ) where
  pub length_asked : (rs : List Receiving) → length (asked says s g q rs) ≡ count_by (asks_in g) rs
  length_asked [] = refl
  length_asked (r ∷ rs) = by (asks_in g r) (length_asked rs) ∙ sym (count_cons (asks_in g) r rs)
    where
      by : (b : Bool) → length (asked says s g q rs) ≡ count_by (asks_in g) rs → length ((if b then row_of says s q r ∷ [] else []) ++ asked says s g q rs) ≡ (if b then 1 else 0) + count_by (asks_in g) rs
      by true later = omega (arith, later)
      by false later = omega (arith, later)

  pub all_asked : (P : Row → Type 0) → ((r : Receiving) → P (row_of says s q r)) → (rs : List Receiving) → All P (asked says s g q rs)
  all_asked P each [] = All-nil P
  all_asked P each (r ∷ rs) = by (asks_in g r) (all_asked P each rs)
    where
      by : (b : Bool) → All P (asked says s g q rs) → All P ((if b then row_of says s q r ∷ [] else []) ++ asked says s g q rs)
      by true later = All-cons P (row_of says s q r) (asked says s g q rs) (each r) later
      by false later = later

-- rows of one process alone

pub rows_own : (q : ℕ) (rows : List Row) → All (λ r. r.process ≡ q) rows → rows_at q rows ≡ rows
rows_own q [] all = refl
rows_own q (x ∷ xs) all =
    ap (λ b. if b then x ∷ rows_at q xs else rows_at q xs) (eq-eqb x.process q (All-head (λ (r : Row). r.process ≡ q) x xs all))
    ∙ ap (λ (ys : List Row). x ∷ ys) (rows_own q xs (All-tail (λ (r : Row). r.process ≡ q) x xs all))

pub rows_none : (q k : ℕ) (rows : List Row) → All (λ r. r.process ≡ k) rows → (k ≢ q) → rows_at q rows ≡ []
rows_none q k [] all other = refl
rows_none q k (x ∷ xs) all other =
    ap (λ b. if b then x ∷ rows_at q xs else rows_at q xs) (ne_eqb x.process q (λ e. other (sym (All-head (λ (r : Row). r.process ≡ k) x xs all) ∙ e)))
    ∙ rows_none q k xs (All-tail (λ (r : Row). r.process ≡ k) x xs all) other

abbrev pub forgotten : ℕ → List Row → List Row
forgotten p rows = filter (λ r. not (nat_eq r.process p)) rows

pub rows_forgotten : (p : ℕ) (rows : List Row) → rows_at p (forgotten p rows) ≡ []
rows_forgotten p [] = refl
rows_forgotten p (x ∷ xs) = by (nat_eq x.process p) refl (rows_forgotten p xs)
  where
    by : (b : Bool) → nat_eq x.process p ≡ b → rows_at p (forgotten p xs) ≡ [] → rows_at p (if not b then x ∷ forgotten p xs else forgotten p xs) ≡ []
    by true is later = later
    by false is later = ap (λ c. if c then x ∷ rows_at p (forgotten p xs) else rows_at p (forgotten p xs)) is ∙ later

pub rows_remembered : (p q : ℕ) (rows : List Row) → (q ≢ p) → rows_at q (forgotten p rows) ≡ rows_at q rows
rows_remembered p q [] other = refl
rows_remembered p q (x ∷ xs) other = by (nat_eq x.process p) (nat_eq x.process q) refl refl (rows_remembered p q xs other)
  where
    by : (b c : Bool) → nat_eq x.process p ≡ b → nat_eq x.process q ≡ c → rows_at q (forgotten p xs) ≡ rows_at q xs
        → rows_at q (if not b then x ∷ forgotten p xs else forgotten p xs) ≡ (if c then x ∷ rows_at q xs else rows_at q xs)
    by true true is_p is_q later = absurd (other (sym (eqb-true x.process q is_q) ∙ eqb-true x.process p is_p))
    by true false is_p is_q later = later
    by false c is_p is_q later =
        ap (λ v. if v then x ∷ rows_at q (forgotten p xs) else rows_at q (forgotten p xs)) is_q ∙ ap (λ (ys : List Row). if c then x ∷ ys else ys) later

tail_numbered : (from : ℕ) (e : Kept) (all : List Kept) → Numbered from (e ∷ all) → Numbered (suc from) all
tail_numbered from e all n = record { at = λ i x is. n.at (suc i) x is ∙ omega arith }

-- the rows of a process among those that all processes gave
module _ (f : Kept → List Row) (own : (e : Kept) → All (λ r. r.process ≡ e.process) (f e)) where
  rows_later : (from q : ℕ) (all : List Kept) → Numbered from all → q < from → rows_at q (flat_map f all) ≡ []
  rows_later from q [] n lt = refl
  rows_later from q (e ∷ all) n lt =
      let is : e.process ≡ from + 0 = n.at 0 e refl in
      filter-append (λ (r : Row). nat_eq r.process q) (f e) (flat_map f all)
      ∙ ((λ i. rows_none q e.process (f e) (own e) (λ same. omega (arith, is, same, lt)) i ++ rows_later (suc from) q all (tail_numbered from e all n) (omega (arith, lt)) i))

  pub rows_of : (from i q : ℕ) (all : List Kept) (x : Kept) → Numbered from all → slice_get all i ≡ Some x → q ≡ from + i → rows_at q (flat_map f all) ≡ f x
  rows_of from i q [] x n is same = cc
  rows_of from zero q (e ∷ all) x n is same =
      let one : e ≡ x = cc in
      let here : e.process ≡ from + 0 = n.at 0 e refl in
      let mine : q ≡ e.process = omega (arith, here, same) in
      filter-append (λ (r : Row). nat_eq r.process q) (f e) (flat_map f all)
      ∙ ((λ i. (ap (λ k. rows_at k (f e)) mine ∙ rows_own e.process (f e) (own e)) i ++ rows_later (suc from) q all (tail_numbered from e all n) (omega (arith, same)) i)
      ∙ (append-nil (f e) ∙ ap f one))
  rows_of from (suc i) q (e ∷ all) x n is same =
      let here : e.process ≡ from + 0 = n.at 0 e refl in
      filter-append (λ (r : Row). nat_eq r.process q) (f e) (flat_map f all)
      ∙ (λ k. rows_none q e.process (f e) (own e) (λ eq. omega (arith, here, eq, same)) k ++ rows_of (suc from) i q all x (tail_numbered from e all n) is (omega (arith, same)) k)

-- Totals

module _ (g : ℕ) where
  pub total_set : (all : List Kept) (p : ℕ) (x y : Kept) → p < length all → x ≡ get_or all p x → Alike (plus (total_of (set all p y) g) (part_of x g)) (plus (total_of all g) (part_of y g))
  total_set [] p x y lt is = absurd (omega (arith, lt))
  total_set (e ∷ all) zero x y lt is =
      let same : part_of x g ≡ part_of e g = ap (λ (k : Kept). part_of k g) is in
      record {
        sends = let s = ap (λ (t : Tally). t.sends) same in omega (arith, s);
        free = let s = ap (λ (t : Tally). t.free) same in omega (arith, s);
        own = let s = ap (λ (t : Tally). t.own) same in omega (arith, s);
        asking = let s = ap (λ (t : Tally). t.asking) same in omega (arith, s);
        yes = let s = ap (λ (t : Tally). t.yes) same in omega (arith, s);
        troubles = let s = ap (λ (t : Tally). t.troubles) same in omega (arith, s);
      }
  total_set (e ∷ all) (suc p) x y lt is =
      let h = total_set all p x y (omega (arith, lt)) is in
      record {
        sends = omega (arith, h.sends);
        free = omega (arith, h.free);
        own = omega (arith, h.own);
        asking = omega (arith, h.asking);
        yes = omega (arith, h.yes);
        troubles = omega (arith, h.troubles);
      }

-- The offers after an update

module _ (says : Verdicts) (p : ℕ) (sent : List Sending) (heard : List Receiving) (all : List Kept) (within : p < length all) where
  abbrev now : Kept
  now = record { process = p; sends = sent; receives = heard }

  abbrev new : List Kept
  new = other_offers says p sent heard all

  pub new_length : length new ≡ length all
  new_length = length-set (map (renewed_in says p heard) all) p now ∙ length-map all (renewed_in says p heard)

  pub new_here : (d : Kept) → get_or new p d ≡ now
  new_here d = get_or-set_same (map (renewed_in says p heard) all) p now d (omega (arith, within, length-map all (renewed_in says p heard)))

  pub new_there : (k : ℕ) (d : Kept) → k ≢ p → k < length all → get_or new k d ≡ renewed_in says p heard (get_or all k d)
  new_there k d other lt = get_or-set_other (map (renewed_in says p heard) all) p k now d other ∙ get_or-map (renewed_in says p heard) all k d d lt

  -- what holds of this process and of all others
  pub all_new : (P : Kept → Type 0) → P now → ((k : ℕ) (e : Kept) → k ≢ p → slice_get all k ≡ Some e → P (renewed_in says p heard e)) → All P new
  all_new P here there k d lt = by (cases_eq k p)
    where
      in_all : k < length all
      in_all = omega (arith, lt, new_length)

      by : (k ≡ p) ⊎ (k ≢ p) → P (get_or new k d)
      by (inl same) = subst (λ j. P (get_or new j d)) (sym same) (subst P (sym (new_here d)) here)
      by (inr other) = subst P (sym (new_there k d other in_all)) (there k (get_or all k d) other (slice_get-get_or all k d in_all))

  numbers : map (λ (e : Kept). e.process) all ≡ upto (length all) → get_or (map (λ (e : Kept). e.process) all) p p ≡ p → map (λ (e : Kept). e.process) new ≡ upto (length new)
  numbers numbered at =
      map-set (λ (e : Kept). e.process) (map (renewed_in says p heard) all) p now
      ∙ (ap (λ (ns : List ℕ). set ns p p) (same all)
      ∙ (ap (set (map (λ (e : Kept). e.process) all) p) (sym at)
      ∙ (set-get_or (map (λ (e : Kept). e.process) all) p p
      ∙ (numbered ∙ ap upto (sym new_length)))))
    where
      same : (xs : List Kept) → map (λ (e : Kept). e.process) (map (renewed_in says p heard) xs) ≡ map (λ (e : Kept). e.process) xs
      same [] = refl
      same (x ∷ xs) = ap (λ (ns : List ℕ). x.process ∷ ns) (same xs)

  module _ (g0 : GroupsView) (holds : Holds g0 all) where
    pub silent_numbered : Numbered 0 (set all p (silent p))
    silent_numbered = record { at = λ i e is. by i e is (cases_eq i p) }
      where
        by : (i : ℕ) (e : Kept) → slice_get (set all p (silent p)) i ≡ Some e → (i ≡ p) ⊎ (i ≢ p) → e.process ≡ 0 + i
        by i e is (inl same) =
            let found : get_or (set all p (silent p)) i e ≡ e = get_or_from_slice_get (set all p (silent p)) i e e is in
            let here : get_or (set all p (silent p)) i e ≡ silent p = ap (λ j. get_or (set all p (silent p)) j e) same ∙ get_or-set_same all p (silent p) e within in
            let one : e.process ≡ p = ap (λ (x : Kept). x.process) (sym found ∙ here) in
            omega (arith, one, same)
        by i e is (inr other) =
            let found : get_or (set all p (silent p)) i e ≡ e = get_or_from_slice_get (set all p (silent p)) i e e is in
            let there : get_or (set all p (silent p)) i e ≡ get_or all i e = get_or-set_other all p i (silent p) e other in
            let lt : i < length all = omega (arith, slice_get_within (set all p (silent p)) i e is, length-set all p (silent p)) in
            let named : e.process ≡ i = numbered_at g0 all holds i e (slice_get-get_or all i e lt ∙ ap (λ z. Some z) (sym there ∙ found)) in
            omega (arith, named)

    pub asked_own : (s : Sending) (e : Kept) → All (λ r. r.process ≡ e.process) (asked_in says s.sender s.group e)
    asked_own s e = by (nat_eq e.process s.sender.end.process)
      where
        by : (b : Bool) → All (λ (r : Row). r.process ≡ e.process) (if b then [] else asked says s.sender s.group e.process e.receives)
        by true = All-nil (λ (r : Row). r.process ≡ e.process)
        by false = all_asked says s.sender s.group e.process (λ (r : Row). r.process ≡ e.process) (λ r. refl) e.receives

  module _ (g0 g1 : GroupsView) (holds : Holds g0 all) (follows : Follows g0 g1)
      (sends_own : All (λ s. s.sender.end.process ≡ p) sent) (receives_own : All (λ r. r.receiver.end.process ≡ p) heard)
      (sends_keyed : All (SendKeyed g1) sent) (receives_keyed : All (ReceiveKeyed g1) heard)
      (answered : All (λ s. s.rows ≡ flat_map (asked_in says s.sender s.group) (set all p (silent p))) sent) where
    own_place : get_or (map (λ (e : Kept). e.process) all) p p ≡ p
    own_place = ap (λ (ns : List ℕ). get_or ns p p) holds.numbered ∙ get_or_from_slice_get (upto (length all)) p p p (get_upto (length all) p within)

    -- the sends of this process
    answered_here : (s : Sending) → s.sender.end.process ≡ p → s.rows ≡ flat_map (asked_in says s.sender s.group) (set all p (silent p)) → Answered new s
    answered_here s own is = record {
      each = all_new (λ e. length (rows_at e.process s.rows) ≡ (if nat_eq e.process s.sender.end.process then 0 else count_by (asks_in s.group) e.receives)) here there;
      within = subst (λ (rows : List Row). All (λ (r : Row). r.process < length new) rows) (sym is) (bounded (set all p (silent p)) (λ k d lt. omega (arith, lt, length-set all p (silent p), (silent_numbered g0 holds).at k (get_or (set all p (silent p)) k d) (slice_get-get_or (set all p (silent p)) k d lt), new_length)));
    }
      where
        rows_there : (k : ℕ) (e : Kept) → slice_get (set all p (silent p)) k ≡ Some e → rows_at k s.rows ≡ asked_in says s.sender s.group e
        rows_there k e at = ap (rows_at k) is ∙ rows_of (asked_in says s.sender s.group) (asked_own g0 holds s) 0 k k (set all p (silent p)) e (silent_numbered g0 holds) at (omega arith)

        here : length (rows_at p s.rows) ≡ (if nat_eq p s.sender.end.process then 0 else count_by (asks_in s.group) heard)
        here =
            let at : slice_get (set all p (silent p)) p ≡ Some (silent p)
            = slice_get-get_or (set all p (silent p)) p (silent p) (omega (arith, within, length-set all p (silent p))) ∙ ap (λ z. Some z) (get_or-set_same all p (silent p) (silent p) within) in
            let mine : nat_eq p s.sender.end.process ≡ true = eq-eqb p s.sender.end.process (sym own) in
            ap length (rows_there p (silent p) at ∙ ap (λ b. if b then [] else asked says s.sender s.group p []) mine)
            ∙ sym (ap (λ b. if b then 0 else count_by (asks_in s.group) heard) mine)

        there : (k : ℕ) (e : Kept) → k ≢ p → slice_get all k ≡ Some e → length (rows_at e.process s.rows) ≡ (if nat_eq e.process s.sender.end.process then 0 else count_by (asks_in s.group) e.receives)
        there k e other at =
            let named : e.process ≡ k = numbered_at g0 all holds k e at in
            let lt : k < length all = slice_get_within all k e at in
            let mid : slice_get (set all p (silent p)) k ≡ Some e
            = slice_get-get_or (set all p (silent p)) k e (omega (arith, lt, length-set all p (silent p)))
            ∙ ap (λ z. Some z) (get_or-set_other all p k (silent p) e other ∙ get_or_from_slice_get all k e e at) in
            ap (λ j. length (rows_at j s.rows)) named ∙ (ap length (rows_there k e mid) ∙ by (nat_eq e.process s.sender.end.process))
          where
            by : (b : Bool) → length (if b then [] else asked says s.sender s.group e.process e.receives) ≡ (if b then 0 else count_by (asks_in s.group) e.receives)
            by true = refl
            by false = length_asked says s.sender s.group e.process e.receives

        bounded : (xs : List Kept) → All (λ (e : Kept). e.process < length new) xs → All (λ (r : Row). r.process < length new) (flat_map (asked_in says s.sender s.group) xs)
        bounded [] lts = All-nil (λ (r : Row). r.process < length new)
        bounded (e ∷ xs) lts =
            All-append (λ (r : Row). r.process < length new) (asked_in says s.sender s.group e) (flat_map (asked_in says s.sender s.group) xs)
            (All-weaker (λ (r : Row). r.process ≡ e.process) (λ (r : Row). r.process < length new) (λ r same. let lt = All-head (λ (x : Kept). x.process < length new) e xs lts in omega (arith, same, lt)) (asked_in says s.sender s.group e) (asked_own g0 holds s e))
            (bounded xs (All-tail (λ (x : Kept). x.process < length new) e xs lts))

    -- the sends of others
    answered_there : (s : Sending) → s.sender.end.process ≢ p → Answered all s → Answered new (renewed says p heard s)
    answered_there s foreign old = record {
      each = all_new (λ e. length (rows_at e.process rows) ≡ (if nat_eq e.process s.sender.end.process then 0 else count_by (asks_in s.group) e.receives)) here there;
      within = All-append (λ (r : Row). r.process < length new) (forgotten p s.rows) (asked says s.sender s.group p heard)
          (All-filter (λ (r : Row). not (nat_eq r.process p)) (λ (r : Row). r.process < length new) s.rows (subst (λ m. All (λ (r : Row). r.process < m) s.rows) (sym new_length) old.within))
          (all_asked says s.sender s.group p (λ (r : Row). r.process < length new) (λ r. omega (arith, within, new_length)) heard);
    }
      where
        rows : List Row
        rows = forgotten p s.rows ++ asked says s.sender s.group p heard

        from_p : All (λ (r : Row). r.process ≡ p) (asked says s.sender s.group p heard)
        from_p = all_asked says s.sender s.group p (λ (r : Row). r.process ≡ p) (λ r. refl) heard

        here : length (rows_at p (forgotten p s.rows ++ asked says s.sender s.group p heard)) ≡ (if nat_eq p s.sender.end.process then 0 else count_by (asks_in s.group) heard)
        here =
            let parts : rows_at p (forgotten p s.rows ++ asked says s.sender s.group p heard) ≡ asked says s.sender s.group p heard
            = filter-append (λ (r : Row). nat_eq r.process p) (forgotten p s.rows) (asked says s.sender s.group p heard)
            ∙ (λ i. rows_forgotten p s.rows i ++ rows_own p (asked says s.sender s.group p heard) from_p i) in
            let other : nat_eq p s.sender.end.process ≡ false = ne_eqb p s.sender.end.process (λ e. foreign (sym e)) in
            ap length parts ∙ (length_asked says s.sender s.group p heard ∙ sym (ap (λ b. if b then 0 else count_by (asks_in s.group) heard) other))

        there : (k : ℕ) (e : Kept) → k ≢ p → slice_get all k ≡ Some e
            → length (rows_at e.process (forgotten p s.rows ++ asked says s.sender s.group p heard)) ≡ (if nat_eq e.process s.sender.end.process then 0 else count_by (asks_in s.group) e.receives)
        there k e other at =
            let named : e.process ≡ k = numbered_at g0 all holds k e at in
            let apart : e.process ≢ p = λ same. other (sym named ∙ same) in
            let parts : rows_at e.process (forgotten p s.rows ++ asked says s.sender s.group p heard) ≡ rows_at e.process s.rows
            = filter-append (λ (r : Row). nat_eq r.process e.process) (forgotten p s.rows) (asked says s.sender s.group p heard)
            ∙ ((λ i. rows_remembered p e.process s.rows apart i ++ rows_none e.process p (asked says s.sender s.group p heard) from_p (λ same. apart (sym same)) i)
            ∙ append-nil (rows_at e.process s.rows)) in
            let was = subst (λ (x : Kept). length (rows_at x.process s.rows) ≡ (if nat_eq x.process s.sender.end.process then 0 else count_by (asks_in s.group) x.receives)) (get_or_from_slice_get all k e e at) (old.each k e (slice_get_within all k e at)) in
            ap length parts ∙ was

    pub sound_new : All (Sound g1 new) new
    sound_new = all_new (Sound g1 new) here there
      where
        here : Sound g1 new now
        here = record {
          sends_own = sends_own;
          receives_own = receives_own;
          sends_keyed = sends_keyed;
          receives_keyed = receives_keyed;
          answered = λ k d lt. answered_here (get_or sent k d) (sends_own k d lt) (answered k d lt);
        }

        there : (k : ℕ) (e : Kept) → k ≢ p → slice_get all k ≡ Some e → Sound g1 new (renewed_in says p heard e)
        there k e other at =
            let named : e.process ≡ k = numbered_at g0 all holds k e at in
            let ok : Sound g0 all e = subst (Sound g0 all) (get_or_from_slice_get all k e e at) (holds.sound k e (slice_get_within all k e at)) in
            record {
              sends_own = All-map (λ (s : Sending). s.sender.end.process ≡ e.process) (renewed says p heard) e.sends ok.sends_own;
              receives_own = ok.receives_own;
              sends_keyed = All-map (SendKeyed g1) (renewed says p heard) e.sends (All-weaker (SendKeyed g0) (SendKeyed g1) (send_keyed follows) e.sends ok.sends_keyed);
              receives_keyed = All-weaker (ReceiveKeyed g0) (ReceiveKeyed g1) (receive_keyed follows) e.receives ok.receives_keyed;
              answered = All-map (Answered new) (renewed says p heard) e.sends (λ j d lt. answered_there (get_or e.sends j d) (λ same. other (sym named ∙ (sym (ok.sends_own j d lt) ∙ same))) (ok.answered j d lt));
            }

    pub holds_new : ((g : ℕ) → Alike (tally_at g1.groups g) (total_of new g)) → Holds g1 new
    holds_new tallied = record { numbered = numbers holds.numbered own_place; sound = sound_new; tallied = tallied }
