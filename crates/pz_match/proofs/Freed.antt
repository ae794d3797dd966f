-- The receives of a block without a condition that take a send.
use Rattle.std.proofs.Common.{◌≡◌, ◌≢◌, ◌≤◌, ◌<◌, ◌+◌, ◌-◌, ◌*◌, ◌/◌, ◌⊎◌, inl, inr, refl, sym, ◌∙◌, ap, ℕ, Bool, true, false, nat_eq, List, [], ◌∷◌, length, take, drop, get_or, Some, if◌then◌else◌, arith}
use Rattle.std.specs.Prelude.{All, sum_by, count_by}
use Rattle.std.specs.List.{slice_get}
use Rattle.std.proofs.lemmas.Bool.{eq-eqb, ne_eqb, eqb-true, eqb-false}
use Rattle.std.proofs.lemmas.List.Elements.{All-take, All-drop}
use Rattle.std.proofs.lemmas.List.Sums.{sum_by_more}
use Rattle.std.proofs.lemmas.Option.{slice_get_within, get_or_from_slice_get}
use Rattle.pz_match_lists.specs.declared.shares.Part.{Part}
use Rattle.pz_match_lists.specs.Shares.{share_at}
use Rattle.pz_match.specs.declared.rows.Row.{Row}
use Rattle.pz_match.specs.declared.kept.Sending.{Sending}
use Rattle.pz_match.specs.declared.kept.Receiving.{Receiving}
use Rattle.pz_match.specs.declared.groups.Sort.TheVariants.{Taken}
use Rattle.pz_match.specs.Pairs.{is_yes}
use Rattle.pz_match.specs.devices.Kept.{Kept, free_in, rows_at, heard}
use Rattle.pz_match.specs.devices.Tallies.{GroupsView, yeses}
use Rattle.pz_match.specs.devices.Holding.{Holds, Answered}
use Rattle.pz_match.specs.devices.Seeking.{wants, sought}
use Rattle.pz_match.specs.devices.Sharing.{block_of, Shared, taken_by, AreOwn}
use Rattle.pz_match.proofs.Sums.{sum_same, sum_both}
use Rattle.pz_match.proofs.Answered.{one_process, count_cons}
use Rattle.pz_match.proofs.Counting.{total_free}
use Rattle.pz_match.proofs.Reaching.{gap_by}
use Rattle.pz_match.proofs.Passing.{sum_plus}
use Rattle.pz_match.proofs.Sought.{numbered_at, places}

yes_rows : (q : ℕ) (rows : List Row) → yeses (rows_at q rows) ≤ yeses rows
yes_rows q [] = omega arith
yes_rows q (r ∷ rows) = by (nat_eq r.process q) (yes_rows q rows)
  where
    by : (b : Bool) → yeses (rows_at q rows) ≤ yeses rows → yeses (if b then r ∷ rows_at q rows else rows_at q rows) ≤ yeses (r ∷ rows)
    by true later = omega (arith, later, count_cons (λ (x : Row). is_yes x.verdict) r rows, count_cons (λ (x : Row). is_yes x.verdict) r (rows_at q rows))
    by false later = omega (arith, later, count_cons (λ (x : Row). is_yes x.verdict) r rows)

module _ (groups : GroupsView) (all : List Kept) (holds : Holds groups all) (s : Sending) (answered : Answered all s) (rs : List Receiving) (mine : AreOwn all s.sender.end.process rs) (none : yeses s.rows ≡ 0) where
  abbrev q : ℕ
  q = s.sender.end.process

  abbrev free : Kept → ℕ
  free e = count_by (free_in s.group) e.receives

  abbrev other : Kept → ℕ
  other e = if nat_eq e.process s.sender.end.process then 0 else count_by (free_in s.group) e.receives

  abbrev own : Kept → ℕ
  own e = if nat_eq e.process s.sender.end.process then count_by (free_in s.group) e.receives else 0

  -- of one process
  each : All (λ e. length (sought Taken (heard s e)) ≡ (if nat_eq e.process s.sender.end.process then 0 else count_by (free_in s.group) e.receives)) all
  each k d lt =
      let is = one_process (wants Taken) all s mine.own holds.numbered (places groups all holds) answered mine.there k d lt in
      let no_rows = yes_rows (get_or all k d).process s.rows in
      omega (arith, is, no_rows, none)

  both : (e : Kept) → other e + own e ≡ free e
  both e = by (nat_eq e.process s.sender.end.process)
    where
      by : (b : Bool) → (if b then 0 else count_by (free_in s.group) e.receives) + (if b then count_by (free_in s.group) e.receives else 0) ≡ count_by (free_in s.group) e.receives
      by true = omega arith
      by false = omega arith

  -- the process of the send alone
  only_own : (k : ℕ) (e : Kept) → slice_get all k ≡ Some e → (k ≡ q → ⊥) → own e ≡ 0
  only_own k e is apart = ap (λ b. if b then count_by (free_in s.group) e.receives else 0) (ne_eqb e.process q (λ same. apart (sym (numbered_at groups all holds k e is) ∙ same)))

  still : (i j : ℕ) → i ≤ j → ((k : ℕ) → i ≤ k → k < j → k ≡ q → ⊥) → sum_by own (take j all) ≡ sum_by own (take i all)
  still = gap_by (λ k. k ≡ q) own all only_own

  own_there : own mine.own ≡ count_by (free_in s.group) rs
  own_there =
      ap (λ b. if b then count_by (free_in s.group) mine.own.receives else 0) (eq-eqb mine.own.process q (numbered_at groups all holds q mine.own mine.there))
      ∙ ap (λ (xs : List Receiving). count_by (free_in s.group) xs) mine.same

  step : sum_by own (take (q + 1) all) ≡ count_by (free_in s.group) rs
  step =
      let lt = slice_get_within all q mine.own mine.there in
      let more : sum_by own (take (q + 1) all) ≡ sum_by own (take q all) + own (get_or all q mine.own) = sum_by_more own all q mine.own lt in
      let item : own (get_or all q mine.own) ≡ own mine.own = ap own (get_or_from_slice_get all q mine.own mine.own mine.there) in
      let before : sum_by own (take q all) ≡ 0 = still 0 q (omega arith) (λ k from to same. omega (arith, to, same)) in
      omega (arith, more, item, before, own_there)

  in_block : (b : ℕ) → sum_by own (block_of b all) ≡ (if nat_eq (s.sender.end.process / 64) b then count_by (free_in s.group) rs else 0)
  in_block b = by (nat_eq (q / 64) b) refl
    where
      parts : sum_by own (take (64 * b + 64) all) ≡ sum_by own (take (64 * b) all) + sum_by own (block_of b all)
      parts = sum_plus own (64 * b) 64 all

      split : (p c : ℕ) → p / 64 ≢ c → (p < 64 * c) ⊎ (64 * c + 64 ≤ p)
      split p c ne = grind arith

      apart : (q < 64 * b) ⊎ (64 * b + 64 ≤ q) → sum_by own (block_of b all) ≡ 0
      apart (inl before) = let h = still (64 * b) (64 * b + 64) (omega arith) (λ k from to same. omega (arith, from, same, before)) in omega (arith, h, parts)
      apart (inr behind) = let h = still (64 * b) (64 * b + 64) (omega arith) (λ k from to same. omega (arith, to, same, behind)) in omega (arith, h, parts)

      by : (c : Bool) → nat_eq (q / 64) b ≡ c → sum_by own (block_of b all) ≡ (if c then count_by (free_in s.group) rs else 0)
      by true same =
          let e : q / 64 ≡ b = eqb-true (q / 64) b same in
          let low : 64 * b ≤ q = omega (arith, e) in
          let high : q < 64 * b + 64 = omega (arith, e) in
          let before : sum_by own (take (64 * b) all) ≡ 0 = still 0 (64 * b) (omega arith) (λ k from to is. omega (arith, to, is, low)) in
          let behind : sum_by own (take (64 * b + 64) all) ≡ sum_by own (take (q + 1) all) = still (q + 1) (64 * b + 64) (omega (arith, high)) (λ k from to is. omega (arith, from, is)) in
          omega (arith, parts, before, behind, step)
      by false other = apart (split q b (eqb-false (q / 64) b other))

  -- of a block
  pub block_free : (shares : List (List Part)) → Shared shares all → (b : ℕ) → taken_by shares s (count_by (free_in s.group) rs) b ≡ sum_by (λ e. length (sought Taken (heard s e))) (block_of b all)
  block_free shares shared b =
      let xs = block_of b all in
      let taken : sum_by (λ e. length (sought Taken (heard s e))) xs ≡ sum_by other xs
      = sum_same (λ e. length (sought Taken (heard s e))) other xs
      (All-take (λ e. length (sought Taken (heard s e)) ≡ other e) 64 (drop (64 * b) all) (All-drop (λ e. length (sought Taken (heard s e)) ≡ other e) (64 * b) all each)) in
      let whole : sum_by other xs + sum_by own xs ≡ sum_by free xs = sym (sum_both other own xs) ∙ sum_same (λ e. other e + own e) free xs (λ k d lt. both (get_or xs k d)) in
      let all_free : sum_by free xs ≡ (share_at shares s.group b).free = sym (total_free s.group xs) ∙ sym (shared s.group b).free in
      by (nat_eq (q / 64) b) taken whole all_free (in_block b)
    where
      by : (c : Bool) → sum_by (λ e. length (sought Taken (heard s e))) (block_of b all) ≡ sum_by other (block_of b all) → sum_by other (block_of b all) + sum_by own (block_of b all) ≡ sum_by free (block_of b all)
          → sum_by free (block_of b all) ≡ (share_at shares s.group b).free → sum_by own (block_of b all) ≡ (if c then count_by (free_in s.group) rs else 0)
          → (if c then (share_at shares s.group b).free - count_by (free_in s.group) rs else (share_at shares s.group b).free) ≡ sum_by (λ e. length (sought Taken (heard s e))) (block_of b all)
      by true t w f o = omega (arith, t, w, f, o)
      by false t w f o = omega (arith, t, w, f, o)
