-- How many pairs of a send have a verdict of one sort.
use Rattle.std.proofs.Common.{◌≡◌, ◌<◌, ◌+◌, ◌-◌, refl, sym, ◌∙◌, ap, ℕ, zero, suc, Bool, true, false, not, ◌&&◌, nat_eq, List, [], ◌∷◌, length, drop, get_or, Some, if◌then◌else◌, arith}
use Rattle.std.specs.Prelude.{All, sum_by, count_by, filter, map}
use Rattle.std.specs.List.{slice_get}
use Rattle.std.proofs.lemmas.Bool.{eq-eqb, ne_eqb}
use Rattle.std.proofs.lemmas.List.Elements.{All-weaker}
use Rattle.std.proofs.lemmas.List.Concat.{length-flat_map}
use Rattle.std.proofs.lemmas.List.Sums.{sum_by-cons}
use Rattle.pz_match.specs.declared.offers.Sender.{Sender}
use Rattle.pz_match.specs.declared.rows.Row.{Row}
use Rattle.pz_match.specs.declared.kept.Sending.{Sending}
use Rattle.pz_match.specs.declared.kept.Receiving.{Receiving}
use Rattle.pz_offer.specs.declared.ends.Verdict.{Verdict}
use Rattle.pz_offer.specs.declared.ends.Verdict.TheVariants as says
use Rattle.pz_match.specs.Pairs.{Judged}
use Rattle.pz_match.specs.devices.Lists.{upto}
use Rattle.pz_match.specs.devices.Kept.{Kept, free_in, asks_in, rows_at, next_verdict, judged, answers, heard, pairs_of}
use Rattle.pz_match.specs.devices.Holding.{Answered}
use Rattle.pz_match.proofs.Sums.{filter_flat, sum_same, sum_both, regroup, sum_mapped}

pub count_cons : {X : Type 0} (p : X → Bool) (x : X) (xs : List X) → count_by p (x ∷ xs) ≡ (if p x then 1 else 0) + count_by p xs
count_cons p x xs = sum_by-cons (λ y. if p y then 1 else 0) x xs

module _ (want : Verdict → Bool) where
  abbrev pub wanted : List Judged → List Judged
  wanted = filter (λ p. want p.verdict)

  abbrev pub rows_wanted : List Row → ℕ
  rows_wanted rows = count_by (λ r. want r.verdict) rows

  abbrev pub frees : ℕ → ℕ
  frees n = if want says.Yes then n else 0

  frees_more : (n : ℕ) → frees (1 + n) ≡ (if want says.Yes then 1 else 0) + frees n
  frees_more n = by (want says.Yes)
    where
      by : (b : Bool) → (if b then 1 + n else 0) ≡ (if b then 1 else 0) + (if b then n else 0)
      by true = refl
      by false = refl

  wanted_cons : (p : Judged) (ps : List Judged) → length (wanted (p ∷ ps)) ≡ (if want p.verdict then 1 else 0) + length (wanted ps)
  wanted_cons p ps = by (want p.verdict)
    where
      by : (b : Bool) → length (if b then p ∷ wanted ps else wanted ps) ≡ (if b then 1 else 0) + length (wanted ps)
      by true = omega arith
      by false = omega arith

  module _ (s : Sender) (g : ℕ) where
    -- of one process, whose conditional receives have a row each
    pub count_answers : (rs : List Receiving) (rows : List Row) → length rows ≡ count_by (asks_in g) rs
        → length (wanted (answers s g rows rs)) ≡ frees (count_by (free_in g) rs) + rows_wanted rows
    count_answers [] rows e = none rows e
      where
        none : (rows : List Row) → length rows ≡ 0 → 0 ≡ frees 0 + rows_wanted rows
        none [] e = by (want says.Yes)
          where
            by : (b : Bool) → 0 ≡ (if b then 0 else 0) + 0
            by true = refl
            by false = refl
        none (r ∷ rows) e = absurd (omega (arith, e))
    count_answers (r ∷ rs) rows e = by (nat_eq r.group g) r.receiver.conditional rows (e ∙ count_cons (asks_in g) r rs) (count_answers rs) ∙ sym (ap (λ n. frees n + rows_wanted rows) (count_cons (free_in g) r rs))
      where
        Later : Type 0
        Later = (rows : List Row) → length rows ≡ count_by (asks_in g) rs → length (wanted (answers s g rows rs)) ≡ frees (count_by (free_in g) rs) + rows_wanted rows

        by : (b c : Bool) (rows : List Row) → length rows ≡ (if b && c then 1 else 0) + count_by (asks_in g) rs → Later
            → length (wanted (if b then (if c then judged s r.receiver (next_verdict rows) ∷ answers s g (drop 1 rows) rs else judged s r.receiver says.Yes ∷ answers s g rows rs) else answers s g rows rs))
            ≡ frees ((if b && not c then 1 else 0) + count_by (free_in g) rs) + rows_wanted rows
        by true true [] e later = absurd (omega (arith, e))
        by true true (row ∷ rows) e later =
            wanted_cons (judged s r.receiver row.verdict) (answers s g rows rs)
            ∙ (let rest : length (wanted (answers s g rows rs)) ≡ frees (count_by (free_in g) rs) + rows_wanted rows = later rows (omega (arith, e)) in
            let none : frees (0 + count_by (free_in g) rs) ≡ frees (count_by (free_in g) rs) = ap frees (omega arith) in
            omega (arith, rest, none, count_cons (λ r. want r.verdict) row rows))
        by true false rows e later =
            wanted_cons (judged s r.receiver says.Yes) (answers s g rows rs)
            ∙ (let rest : length (wanted (answers s g rows rs)) ≡ frees (count_by (free_in g) rs) + rows_wanted rows = later rows (omega (arith, e)) in
            omega (arith, rest, frees_more (count_by (free_in g) rs)))
        by false c rows e later = later rows (omega (arith, e)) ∙ ap (λ n. frees n + rows_wanted rows) (omega arith)

-- The rows of all processes

module _ (want : Verdict → Bool) (all : List Kept) (rows : List Row)
    (numbered : map (λ e. e.process) all ≡ upto (length all)) (within : All (λ r. r.process < length all) rows) where
  wanted_one : Row → ℕ
  wanted_one r = if want r.verdict then 1 else 0

  at_key : (i : ℕ) → rows_wanted want (rows_at i rows) ≡ sum_by (λ r. if nat_eq r.process i then (if want r.verdict then 1 else 0) else 0) rows
  at_key i = go rows
    where
      go : (xs : List Row) → rows_wanted want (rows_at i xs) ≡ sum_by (λ r. if nat_eq r.process i then (if want r.verdict then 1 else 0) else 0) xs
      go [] = refl
      go (x ∷ xs) = by (nat_eq x.process i) (go xs) ∙ sym (sum_by-cons (λ r. if nat_eq r.process i then (if want r.verdict then 1 else 0) else 0) x xs)
        where
          by : (b : Bool) → rows_wanted want (rows_at i xs) ≡ sum_by (λ r. if nat_eq r.process i then (if want r.verdict then 1 else 0) else 0) xs
              → rows_wanted want (if b then x ∷ rows_at i xs else rows_at i xs)
              ≡ (if b then (if want x.verdict then 1 else 0) else 0) + sum_by (λ r. if nat_eq r.process i then (if want r.verdict then 1 else 0) else 0) xs
          by true later = count_cons (λ r. want r.verdict) x (rows_at i xs) ∙ ap (λ n. (if want x.verdict then 1 else 0) + n) later
          by false later = later ∙ omega arith

  pub rows_by_process : sum_by (λ e. rows_wanted want (rows_at e.process rows)) all ≡ rows_wanted want rows
  rows_by_process =
      sym (sum_mapped (λ i. rows_wanted want (rows_at i rows)) (λ (e : Kept). e.process) all)
      ∙ (ap (sum_by (λ i. rows_wanted want (rows_at i rows))) numbered
      ∙ (sum_same (λ i. rows_wanted want (rows_at i rows)) (λ i. sum_by (λ r. if nat_eq r.process i then (if want r.verdict then 1 else 0) else 0) rows) (upto (length all)) (λ k d lt. at_key (get_or (upto (length all)) k d))
      ∙ regroup (λ (r : Row). r.process) (λ r. if want r.verdict then 1 else 0) (length all) rows within))

-- by their places the processes have these numbers
pub record Numbered (from : ℕ) (all : List Kept) : Type 0 where
  pub at : (i : ℕ) (e : Kept) → slice_get all i ≡ Some e → e.process ≡ from + i

later_numbered : (from : ℕ) (e : Kept) (all : List Kept) → Numbered from (e ∷ all) → Numbered (suc from) all
later_numbered from e all n = record { at = λ i x is. n.at (suc i) x is ∙ omega arith }

module _ (f : Kept → ℕ) where
  -- what one process has of a sum
  none_of : (from q : ℕ) (all : List Kept) → Numbered from all → q < from → sum_by (λ e. if nat_eq e.process q then f e else 0) all ≡ 0
  none_of from q [] n lt = refl
  none_of from q (e ∷ all) n lt =
      let is : e.process ≡ from + 0 = n.at 0 e refl in
      let other : nat_eq e.process q ≡ false = ne_eqb e.process q (λ same. omega (arith, is, same, lt)) in
      let this : (if nat_eq e.process q then f e else 0) ≡ 0 = ap (λ b. if b then f e else 0) other in
      omega (arith, this, sum_by-cons (λ e. if nat_eq e.process q then f e else 0) e all, none_of (suc from) q all (later_numbered from e all n) (omega (arith, lt)))

  pub one_of : (from i q : ℕ) (all : List Kept) (x : Kept) → Numbered from all → slice_get all i ≡ Some x → q ≡ from + i → sum_by (λ e. if nat_eq e.process q then f e else 0) all ≡ f x
  one_of from i q [] x n is same = cc
  one_of from zero q (e ∷ all) x n is same =
      let one : e ≡ x = cc in
      let here : e.process ≡ from + 0 = n.at 0 e refl in
      let yes : nat_eq e.process q ≡ true = eq-eqb e.process q (omega (arith, here, same)) in
      let this : (if nat_eq e.process q then f e else 0) ≡ f x = ap (λ b. if b then f e else 0) yes ∙ ap f one in
      omega (arith, this, sum_by-cons (λ e. if nat_eq e.process q then f e else 0) e all, none_of (suc from) q all (later_numbered from e all n) (omega (arith, same)))
  one_of from (suc i) q (e ∷ all) x n is same =
      let here : e.process ≡ from + 0 = n.at 0 e refl in
      let other : nat_eq e.process q ≡ false = ne_eqb e.process q (λ eq. omega (arith, here, eq, same)) in
      let this : (if nat_eq e.process q then f e else 0) ≡ 0 = ap (λ b. if b then f e else 0) other in
      omega (arith, this, sum_by-cons (λ e. if nat_eq e.process q then f e else 0) e all, one_of (suc from) i q all x (later_numbered from e all n) is (omega (arith, same)))

-- One send

module _ (want : Verdict → Bool) (all : List Kept) (s : Sending) (own : Kept)
    (numbered : map (λ e. e.process) all ≡ upto (length all)) (places : Numbered 0 all) (answered : Answered all s) (there : slice_get all s.sender.end.process ≡ Some own) where
  abbrev pub others : Kept → ℕ
  others e = if nat_eq e.process s.sender.end.process then 0 else count_by (free_in s.group) e.receives

  pub one_process : All (λ e. length (wanted want (heard s e)) ≡ frees want (others e) + rows_wanted want (rows_at e.process s.rows)) all
  one_process = go all answered.each
    where
      one : (e : Kept) → length (rows_at e.process s.rows) ≡ (if nat_eq e.process s.sender.end.process then 0 else count_by (asks_in s.group) e.receives)
          → length (wanted want (heard s e)) ≡ frees want (others e) + rows_wanted want (rows_at e.process s.rows)
      one e is = by (nat_eq e.process s.sender.end.process) is
        where
          empty : (rows : List Row) → length rows ≡ 0 → rows_wanted want rows ≡ 0
          empty [] none = refl
          empty (r ∷ rows) none = absurd (omega (arith, none))

          no_frees : frees want 0 ≡ 0
          no_frees = yes (want says.Yes)
            where
              yes : (b : Bool) → ◌≡◌ {A = ℕ} (if b then 0 else 0) 0
              yes true = refl
              yes false = refl

          by : (b : Bool) → length (rows_at e.process s.rows) ≡ (if b then 0 else count_by (asks_in s.group) e.receives)
              → length (wanted want (if b then [] else answers s.sender s.group (rows_at e.process s.rows) e.receives))
              ≡ frees want (if b then 0 else count_by (free_in s.group) e.receives) + rows_wanted want (rows_at e.process s.rows)
          by true none = omega (arith, no_frees, empty (rows_at e.process s.rows) none)
          by false long = count_answers want s.sender s.group e.receives (rows_at e.process s.rows) long

      go : (xs : List Kept) → All (λ e. length (rows_at e.process s.rows) ≡ (if nat_eq e.process s.sender.end.process then 0 else count_by (asks_in s.group) e.receives)) xs
          → All (λ e. length (wanted want (heard s e)) ≡ frees want (others e) + rows_wanted want (rows_at e.process s.rows)) xs
      go xs is = All-weaker (λ e. length (rows_at e.process s.rows) ≡ (if nat_eq e.process s.sender.end.process then 0 else count_by (asks_in s.group) e.receives)) (λ e. length (wanted want (heard s e)) ≡ frees want (others e) + rows_wanted want (rows_at e.process s.rows)) one xs is

  frees_sum : (xs : List Kept) → sum_by (λ e. frees want (others e)) xs ≡ frees want (sum_by others xs)
  frees_sum xs = by (want says.Yes)
    where
      zeros : (ys : List Kept) → sum_by (λ e. 0) ys ≡ 0
      zeros [] = refl
      zeros (y ∷ ys) = omega (arith, sum_by-cons (λ e. 0) y ys, zeros ys)

      by : (b : Bool) → sum_by (λ e. if b then others e else 0) xs ≡ (if b then sum_by others xs else 0)
      by true = refl
      by false = zeros xs

  others_sum : sum_by others all + count_by (free_in s.group) own.receives ≡ sum_by (λ e. count_by (free_in s.group) e.receives) all
  others_sum =
      let mine : sum_by (λ e. if nat_eq e.process s.sender.end.process then count_by (free_in s.group) e.receives else 0) all ≡ count_by (free_in s.group) own.receives
      = one_of (λ e. count_by (free_in s.group) e.receives) 0 s.sender.end.process s.sender.end.process all own places there (omega arith) in
      ap (λ n. sum_by others all + n) (sym mine)
      ∙ (sym (sum_both others (λ e. if nat_eq e.process s.sender.end.process then count_by (free_in s.group) e.receives else 0) all)
      ∙ sum_same _ (λ e. count_by (free_in s.group) e.receives) all (λ k d lt. whole (get_or all k d)))
    where
      whole : (e : Kept) → others e + (if nat_eq e.process s.sender.end.process then count_by (free_in s.group) e.receives else 0) ≡ count_by (free_in s.group) e.receives
      whole e = by (nat_eq e.process s.sender.end.process)
        where
          by : (b : Bool) → (if b then 0 else count_by (free_in s.group) e.receives) + (if b then count_by (free_in s.group) e.receives else 0) ≡ count_by (free_in s.group) e.receives
          by true = omega arith
          by false = omega arith

  -- its pairs with such a verdict are those with the free receives of others, and such rows
  pub count_pairs : length (wanted want (pairs_of all s)) ≡ frees want (sum_by (λ e. count_by (free_in s.group) e.receives) all - count_by (free_in s.group) own.receives) + rows_wanted want s.rows
  count_pairs =
      ap length (filter_flat (heard s) (λ p. want p.verdict) all)
      ∙ (length-flat_map (λ e. wanted want (heard s e)) all
      ∙ (sum_same (λ e. length (wanted want (heard s e))) (λ e. frees want (others e) + rows_wanted want (rows_at e.process s.rows)) all one_process
      ∙ (sum_both (λ e. frees want (others e)) (λ e. rows_wanted want (rows_at e.process s.rows)) all
      ∙ (let first : sum_by (λ e. frees want (others e)) all ≡ frees want (sum_by (λ e. count_by (free_in s.group) e.receives) all - count_by (free_in s.group) own.receives)
      = frees_sum all ∙ ap (frees want) (let split = others_sum in omega arith) in
      let second : sum_by (λ e. rows_wanted want (rows_at e.process s.rows)) all ≡ rows_wanted want s.rows = rows_by_process want all s.rows numbered answered.within in
      omega (arith, first, second)))))
