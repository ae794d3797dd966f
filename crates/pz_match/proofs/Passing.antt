-- Blocks of processes that a search passes over.
use Rattle.std.proofs.Common.{◌≡◌, ◌≤◌, ◌<◌, ◌+◌, ◌-◌, ◌*◌, ◌/◌, ◌⊎◌, inl, inr, refl, sym, ◌∙◌, ap, subst, ℕ, zero, suc, Bool, true, false, nat_eq, List, [], ◌∷◌, length, take, drop, get_or, Option, Some, None, if◌then◌else◌, arith}
use Rattle.std.specs.Prelude.{All, Contains, sum_by, count_by}
use Rattle.std.specs.List.{slice_get}
use Rattle.std.specs.Option.{option_map_or}
use Rattle.std.proofs.lemmas.Bool.{eqb-true, ne_eqb}
use Rattle.std.proofs.lemmas.List.Elements.{All-take, All-drop}
use Rattle.std.proofs.lemmas.List.Sums.{sum_by-cons}
use Rattle.std.proofs.lemmas.Option.{slice_get-get_or, get_or_from_slice_get, slice_get_within}
use Rattle.pz_match_lists.specs.Increasing.{Increasing, list_at}
use Rattle.pz_match_lists.specs.declared.shares.Part.{Part}
use Rattle.pz_match_lists.specs.Shares.{share_at}
use Rattle.pz_match.specs.declared.groups.Group.{Group}
use Rattle.pz_match.specs.declared.groups.Tally.{Tally}
use Rattle.pz_match.specs.declared.groups.Sort.TheVariants.{Taken}
use Rattle.pz_match.specs.declared.places.Seat.{Seat}
use Rattle.pz_match.specs.devices.Lists.{upto}
use Rattle.pz_match.specs.devices.Kept.{Kept, free_in}
use Rattle.pz_match.specs.devices.Tallies.{GroupsView, HasKey, AreListed, tally_at, no_tally, total_of}
use Rattle.pz_match.specs.devices.Holding.{Holds, Sound}
use Rattle.pz_match.specs.devices.Seeking.{past, OnlyAmong, from_process}
use Rattle.pz_match.specs.devices.Sharing.{block_of, Shared, share_taken, part_on, Calm, IsTakenFrom, AreListedOn, IsBehind, OnlyIn}
use Rattle.pz_match.proofs.Sums.{sum_same, get_upto, length_upto}
use Rattle.pz_match.proofs.Counting.{Sent, sent, free_all, total_free, takes_on, taken_of, counted_on, part_counts, few_free, all_upto}
use Rattle.pz_match.proofs.Sought.{keys_of, takes_are}
use Rattle.pz_match.proofs.Reaching.{between, past_next, follows_past, user_adds, no_user, all_passed, gap_by}

-- The groups of a wire, one by one

module _ (groups : List Group) (numbers : List ℕ) (up : Increasing numbers) (w : ℕ) (listed : AreListedOn groups numbers w) where
  module _ (shares : List (List Part)) (b : ℕ) where
    at_number : (k e : ℕ) → slice_get (upto (length groups)) k ≡ Some e → k ≡ e
    at_number k e is =
        let lt = slice_get_within (upto (length groups)) k e is in
        let both : Some k ≡ Some e = sym (get_upto (length groups) k (omega (arith, lt, length_upto (length groups)))) ∙ is in cc

    only_listed : OnlyAmong numbers (upto (length groups)) (part_on groups shares w b)
    only_listed k e is none = by (slice_get groups e) refl
      where
        by : (o : Option Group) → slice_get groups e ≡ o → option_map_or (λ (x : Group). share_taken x w (share_at shares e b)) o 0 ≡ 0
        by None there = refl
        by (Some x) there =
            let off : nat_eq x.wire w ≡ false = ne_eqb x.wire w (λ on. none (subst (Contains numbers) (sym (at_number k e is)) (listed e x there on))) in
            ap (λ c. if c then (share_at shares e b).sends * x.tally.free - (share_at shares e b).own else 0) off

    -- one more
    pub part_more : (u sum part : ℕ) (x : Group) → u < length numbers → get_or numbers u 0 < length groups → x ≡ get_or groups (get_or numbers u 0) x → part ≡ share_taken x w (share_at shares (get_or numbers u 0) b)
        → sum_by (part_on groups shares w b) (take (past numbers u) (upto (length groups))) ≡ sum → sum_by (part_on groups shares w b) (take (past numbers (u + 1)) (upto (length groups))) ≡ sum + part
    part_more u sum part x lt inside is has adds =
        let n = get_or numbers u 0 in
        let there : slice_get groups n ≡ Some x = slice_get-get_or groups n x inside ∙ ap (λ (z : Group). Some z) (sym is) in
        let value : part_on groups shares w b n ≡ part = ap (λ (o : Option Group). option_map_or (λ (z : Group). share_taken z w (share_at shares n b)) o 0) there ∙ sym has in
        let here : n ≡ get_or (upto (length groups)) n n = sym (get_or_from_slice_get (upto (length groups)) n n n (get_upto (length groups) n inside)) in
        user_adds numbers up (upto (length groups)) (part_on groups shares w b) only_listed u sum n lt (omega (arith, inside, length_upto (length groups))) here adds ∙ ap (λ k. sum + k) value

    pub part_over : (u sum : ℕ) → u < length numbers → length groups ≤ get_or numbers u 0
        → sum_by (part_on groups shares w b) (take (past numbers u) (upto (length groups))) ≡ sum → sum_by (part_on groups shares w b) (take (past numbers (u + 1)) (upto (length groups))) ≡ sum
    part_over u sum lt over adds =
        let h = no_user numbers up (upto (length groups)) (part_on groups shares w b) only_listed u (get_or numbers u 0) 0 sum lt refl (omega (arith, over, length_upto (length groups))) (omega (arith, adds)) in
        omega (arith, h)

    pub part_all : (u sum : ℕ) → u ≤ length numbers → length numbers ≤ u
        → sum_by (part_on groups shares w b) (take (past numbers u) (upto (length groups))) ≡ sum → sum ≡ sum_by (part_on groups shares w b) (upto (length groups))
    part_all u sum within over adds =
        let h = all_passed numbers up (upto (length groups)) (part_on groups shares w b) only_listed u 0 sum within over (omega (arith, adds)) in omega (arith, h)

  split : (a b : ℕ) → (a < b) ⊎ (b ≤ a)
  split a b = grind arith

  pub calm_more : (u : ℕ) → u < length numbers → ((x : Group) → slice_get groups (get_or numbers u 0) ≡ Some x → x.wire ≡ w → x.tally.yes ≡ 0) → Calm groups w (past numbers u) → Calm groups w (past numbers (u + 1))
  calm_more u lt here before i x below there on = by (split i (past numbers u)) (same i (get_or numbers u 0))
    where
      same : (a b : ℕ) → (a < b) ⊎ ((a ≡ b) ⊎ (b < a))
      same a b = grind arith

      by : (i < past numbers u) ⊎ (past numbers u ≤ i) → (i < get_or numbers u 0) ⊎ ((i ≡ get_or numbers u 0) ⊎ (get_or numbers u 0 < i)) → x.tally.yes ≡ 0
      by (inl old) o = before i x old there on
      by (inr new) (inl less) = absurd (between numbers up u i (omega (arith, lt)) new (λ inside. less) (listed i x there on))
      by (inr new) (inr (inl is)) = here x (ap (slice_get groups) (sym is) ∙ there) on
      by (inr new) (inr (inr more)) = absurd (let next = past_next numbers up u in omega (arith, next, below, more))

  pub calm_all : (u : ℕ) → u ≤ length numbers → length numbers ≤ u → Calm groups w (past numbers u) → Calm groups w (length groups)
  calm_all u within over before i x below there on = by (split i (past numbers u))
    where
      by : (i < past numbers u) ⊎ (past numbers u ≤ i) → x.tally.yes ≡ 0
      by (inl old) = before i x old there on
      by (inr new) = absurd (between numbers up u i within new (λ inside. absurd (omega (arith, inside, over))) (listed i x there on))

-- of the group that is read
pub calm_here : (groups : List Group) (w n : ℕ) (x : Group) → n < length groups → x ≡ get_or groups n x → (x.wire ≡ w → x.tally.yes ≡ 0)
    → (y : Group) → slice_get groups n ≡ Some y → y.wire ≡ w → y.tally.yes ≡ 0
calm_here groups w n x lt is calm y there on =
    let same : y ≡ x = sym (get_or_from_slice_get groups n y x there) ∙ sym is in
    ap (λ (z : Group). z.tally.yes) same ∙ calm (ap (λ (z : Group). z.wire) (sym same) ∙ on)

-- those of a wire are among the numbers of the wire
pub listed_on : (groups : List Group) (numbers : List (List ℕ)) (w : ℕ) (ns : List ℕ) → AreListed groups numbers → ns ≡ list_at numbers w → AreListedOn groups ns w
listed_on groups numbers w ns listed is i x there on = subst (λ (ms : List ℕ). Contains ms i) (ap (list_at numbers) on ∙ sym is) (listed i x there)

-- Sums by blocks

module _ (f : Kept → ℕ) where
  pub sum_plus : (n m : ℕ) (xs : List Kept) → sum_by f (take (n + m) xs) ≡ sum_by f (take n xs) + sum_by f (take m (drop n xs))
  sum_plus zero m xs = let same : zero + m ≡ m = omega arith in ap (λ k. sum_by f (take k xs)) same ∙ omega arith
  sum_plus (suc n) m [] = nil (suc n + m) ∙ sym (nil2 m)
    where
      nil : (k : ℕ) → sum_by f (take k []) ≡ 0
      nil zero = refl
      nil (suc k) = refl

      nil2 : (k : ℕ) → sum_by f (take (suc n) []) + sum_by f (take k (drop (suc n) [])) ≡ 0
      nil2 zero = refl
      nil2 (suc k) = refl
  sum_plus (suc n) m (x ∷ xs) =
      let next : suc n + m ≡ suc (n + m) = omega arith in
      ap (λ k. sum_by f (take k (x ∷ xs))) next ∙ omega (arith, sum_by-cons f x (take (n + m) xs), sum_by-cons f x (take n xs), sum_plus n m xs)

  module _ (blocks : List ℕ) (up : Increasing blocks) (all : List Kept) (only : OnlyIn blocks all f) where
    -- behind a block
    pub skipped : (u pairs number : ℕ) (seat next : Seat) → u < length blocks → seat.place ≡ 64 * past blocks u → sum_by f (take seat.place all) + seat.rest ≡ number
        → pairs ≡ sum_by f (block_of (get_or blocks u 0) all) → IsBehind (get_or blocks u 0) pairs seat.rest next
        → (next.place ≡ 64 * past blocks (u + 1)) × (sum_by f (take next.place all) + next.rest ≡ number)
    skipped u pairs number seat next lt at adds is behind =
        let b = get_or blocks u 0 in
        let le : past blocks u ≤ b = follows_past blocks up {X = Kept} [] (λ e. 0) (λ k e i none. refl) u lt in
        let quiet : sum_by f (take (64 * b) all) ≡ sum_by f (take seat.place all)
        = gap_by (λ k. Contains blocks (k / 64)) f all only seat.place (64 * b) (omega (arith, at, le))
        (λ k from to. between blocks up u (k / 64) (omega (arith, lt)) (low k (past blocks u) (omega (arith, at, from))) (λ inside. high k b to)) in
        let next_past : past blocks (u + 1) ≡ b + 1 = past_next blocks up u in
        let place : next.place ≡ 64 * past blocks (u + 1) = omega (arith, behind.place_is, next_past) in
        let sum : sum_by f (take next.place all) ≡ sum_by f (take (64 * b) all) + sum_by f (block_of b all) = ap (λ n. sum_by f (take n all)) behind.place_is ∙ sum_plus (64 * b) 64 all in
        (place, omega (arith, sum, quiet, adds, is, behind.left))
      where
        low : (k p : ℕ) → 64 * p ≤ k → p ≤ k / 64
        low k p le = omega (arith, le)

        high : (k b : ℕ) → k < 64 * b → k / 64 < b
        high k b lt = omega (arith, lt)

-- The taken pairs of the sends of a block

yes_front : (g n : ℕ) (xs : List Kept) → (total_of (take n xs) g).yes ≤ (total_of xs g).yes
yes_front g zero xs = omega arith
yes_front g (suc n) [] = omega arith
yes_front g (suc n) (x ∷ xs) = omega (arith, yes_front g n xs)

yes_back : (g n : ℕ) (xs : List Kept) → (total_of (drop n xs) g).yes ≤ (total_of xs g).yes
yes_back g zero xs = omega arith
yes_back g (suc n) [] = omega arith
yes_back g (suc n) (x ∷ xs) = omega (arith, yes_back g n xs)

module _ (groups : GroupsView) (all : List Kept) (holds : Holds groups all) (w : ℕ) where
  module _ (shares : List (List Part)) (shared : Shared shares all) (b : ℕ) where
    few : (i : ℕ) → All (λ (e : Kept). count_by (free_in i) e.receives ≤ free_all all i) (block_of b all)
    few i = All-take (λ (e : Kept). count_by (free_in i) e.receives ≤ free_all all i) 64 (drop (64 * b) all) (All-drop (λ (e : Kept). count_by (free_in i) e.receives ≤ free_all all i) (64 * b) all (few_free all i))

    keyed : All (λ (y : Sent). HasKey groups.groups y.send.group y.send.sender.wire y.send.sender.message (length y.send.sender.parcel.values)) (sent (block_of b all))
    keyed = keys_of groups all holds (block_of b all) (All-take (Sound groups all) 64 (drop (64 * b) all) (All-drop (Sound groups all) (64 * b) all holds.sound))

    pub block_taken : (n : ℕ) → IsTakenFrom groups.groups shares w b n → n ≡ sum_by (from_process Taken groups.groups w) (block_of b all)
    block_taken n is =
        is.sum_is
        ∙ (sum_same (part_on groups.groups shares w b) (counted_on all groups.groups w (block_of b all) few keyed) (upto (length groups.groups))
        (all_upto (λ i. part_on groups.groups shares w b i ≡ counted_on all groups.groups w (block_of b all) few keyed i) (length groups.groups) (λ i lt. here i lt (slice_get groups.groups i) refl))
        ∙ (part_counts all groups.groups w (block_of b all) few keyed
        ∙ sum_same (λ e. sum_by (takes_on all w e) e.sends) (from_process Taken groups.groups w) (block_of b all) (λ k d lt. takes_are groups all holds w (get_or (block_of b all) k d))))
      where
        here : (i : ℕ) → i < length groups.groups → (o : Option Group) → slice_get groups.groups i ≡ o
            → option_map_or (λ (x : Group). share_taken x w (share_at shares i b)) o 0 ≡ option_map_or (λ (x : Group). if nat_eq x.wire w then taken_of all groups.groups w (block_of b all) few keyed i else 0) o 0
        here i lt None there = refl
        here i lt (Some x) there = by (nat_eq x.wire w) refl
          where
            by : (c : Bool) → nat_eq x.wire w ≡ c → (if c then (share_at shares i b).sends * x.tally.free - (share_at shares i b).own else 0) ≡ (if c then taken_of all groups.groups w (block_of b all) few keyed i else 0)
            by true on =
                let tally : tally_at groups.groups i ≡ x.tally = ap (λ (o : Option Group). option_map_or (λ z. z.tally) o no_tally) there in
                let alike = holds.tallied i in
                let share = shared i b in
                let free : x.tally.free ≡ free_all all i = ap (λ (t : Tally). t.free) (sym tally) ∙ (alike.free ∙ total_free i all) in
                let product : (share_at shares i b).sends * x.tally.free ≡ (total_of (block_of b all) i).sends * free_all all i = λ k. share.sends k * free k in
                let calm : x.tally.yes ≡ 0 = is.calm i x lt there (eqb-true x.wire w on) in
                let yes : (tally_at groups.groups i).yes ≡ x.tally.yes = ap (λ (t : Tally). t.yes) tally in
                let front = yes_front i 64 (drop (64 * b) all) in
                let back = yes_back i (64 * b) all in
                omega (arith, product, share.own, calm, yes, alike.yes, front, back)
            by false off = refl
