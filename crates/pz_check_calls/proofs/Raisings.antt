-- Totals that grow until they stand still.
use Rattle.std.proofs.Common.{◌≡◌, ◌≢◌, refl, sym, ap, subst, ◌∙◌, ℕ, zero, suc, ◌+◌, ◌-◌, ◌<◌, ◌≤◌, ◌⊎◌, inl, inr, Bool, true, false, ◌||◌, nat_lt, nat_le, IsTrue, min, Some, slice_get, List, [], ◌∷◌, length, get_or, if◌then◌else◌, arith, get_or-set_same, get_or-set_other}
use Rattle.std.specs.List.{sum_by}
use Rattle.std.proofs.Math.ListN.{set, length-set}
use Rattle.std.proofs.lemmas.Bool.Decides.{nat_tests}
use Rattle.std.proofs.lemmas.List.{get_or_past}
use Rattle.std.proofs.lemmas.List.Sums.{sum_by-cons, sum_by-set, sum_by-le-sum_by}
use Rattle.std.proofs.lemmas.Option.{unwrap_or-slice_get}
use Rattle.pz_check_calls.specs.declared.graph.Call.{Call}
use Rattle.pz_check_calls.specs.declared.graph.Method.{Method}
use Rattle.pz_check_calls.specs.Calls.{begun_by, calls_by, statements_of, opened_in, total_in, AreTotals, IsLarge}
use Rattle.pz_check_calls.specs.devices.Raising.{next, raised, IsReached, room, Raises}

two_ways : (u v : ℕ) → (u < v) ⊎ (v ≤ u)
two_ways u v = grind arith

same_number : (u v : ℕ) → (u ≡ v) ⊎ (u ≢ v)
same_number u v = grind arith

total_is : (ts : List ℕ) (k : ℕ) → total_in ts k ≡ get_or ts k 0
total_is ts k = unwrap_or-slice_get ts k 0

-- what a total is no more than, where one total is set
set_bounded : (ts : List ℕ) (k j v bound : ℕ) → total_in ts j ≤ bound → (j ≡ k → v ≤ bound) → total_in (set ts k v) j ≤ bound
set_bounded ts k j v bound old new = by_place (same_number j k) (two_ways k (length ts))
  where
    by_place : (j ≡ k) ⊎ (j ≢ k) → (k < length ts) ⊎ (length ts ≤ k) → total_in (set ts k v) j ≤ bound
    by_place (inr other) _ =
        let e : total_in (set ts k v) j ≡ total_in ts j = total_is (set ts k v) j ∙ (get_or-set_other ts k j v 0 other ∙ sym (total_is ts j)) in
        omega (arith, e)
    by_place (inl same) (inl below) =
        let e : total_in (set ts k v) k ≡ v = total_is (set ts k v) k ∙ get_or-set_same ts k v 0 below in
        let less : v ≤ bound = new same in
        subst (λ (i : ℕ). total_in (set ts k v) i ≤ bound) (sym same) (omega (arith, e))
    by_place (inl same) (inr beyond) =
        let size : length (set ts k v) ≡ length ts = length-set ts k v in
        let e : total_in (set ts k v) j ≡ 0 = total_is (set ts k v) j ∙ get_or_past (set ts k v) j 0 (omega (arith, size)) in
        omega (arith, e)

room_less : (ts : List ℕ) (k v : ℕ) → k < length ts → total_in ts k < v → v ≤ 1000001 → room (set ts k v) < room ts
room_less ts k v below less most =
    let s : room (set ts k v) + (1000001 - get_or ts k 0) ≡ room ts + (1000001 - v) = sum_by-set (λ (t : ℕ). 1000001 - t) ts k v 0 below in
    let e : total_in ts k ≡ get_or ts k 0 = total_is ts k in
    omega (arith, s, e)

-- beyond the last method nothing is begun
none_beyond : (ms : List Method) (k : ℕ) → length ms ≤ k → (statements_of ms k ≡ 0) × (begun_by ms k ≡ [])
none_beyond [] k beyond = (refl, refl)
none_beyond (r ∷ ms) zero beyond = absurd (omega arith)
none_beyond (r ∷ ms) (suc k) beyond = none_beyond ms k (omega arith)

-- sums of what is no more, where it is known to be no more while it is small
sums_below : (ts : List ℕ) (o : ℕ → ℕ) → ((k : ℕ) → total_in ts k < 1000001 → o k ≤ total_in ts k) → (xs : List Call)
    → sum_by (λ x. total_in ts x.method) xs < 1000001 → sum_by (λ x. o x.method) xs ≤ sum_by (λ x. total_in ts x.method) xs
sums_below ts o each [] low = omega arith
sums_below ts o each (x ∷ xs) low =
    let a : sum_by (λ (y : Call). total_in ts y.method) (x ∷ xs) ≡ total_in ts x.method + sum_by (λ (y : Call). total_in ts y.method) xs = sum_by-cons (λ (y : Call). total_in ts y.method) x xs in
    let b : sum_by (λ (y : Call). o y.method) (x ∷ xs) ≡ o x.method + sum_by (λ (y : Call). o y.method) xs = sum_by-cons (λ (y : Call). o y.method) x xs in
    let here : o x.method ≤ total_in ts x.method = each x.method (omega (arith, a)) in
    let rest : sum_by (λ (y : Call). o y.method) xs ≤ sum_by (λ (y : Call). total_in ts y.method) xs = sums_below ts o each xs (omega (arith, a)) in
    omega (arith, a, b)

module _ (ms : List Method) where
  -- calls that are followed deeper give no less
  pub deeper : (depth k : ℕ) → opened_in ms depth k ≤ opened_in ms (suc depth) k
  deeper zero k = omega arith
  deeper (suc depth) k =
      let more : sum_by (λ (x : Call). opened_in ms depth x.method) (begun_by ms k) ≤ sum_by (λ (x : Call). opened_in ms (suc depth) x.method) (begun_by ms k) =
      sum_by-le-sum_by (λ (x : Call). opened_in ms depth x.method) (λ (x : Call). opened_in ms (suc depth) x.method) (begun_by ms k) (λ (x : Call). deeper depth x.method) in
      omega (arith, more)

  pub nothing_reached : (ts : List ℕ) → ((k : ℕ) → total_in ts k ≡ 0) → IsReached ms ts
  nothing_reached ts none = (0, λ k. (let e : total_in ts k ≡ 0 = none k in omega (arith, e)))

  pub still_reached : (ts : List ℕ) (k : ℕ) → IsReached ms ts → IsReached ms (raised ms ts k)
  still_reached ts k (depth, below) = by_test (nat_lt (total_in ts k) (next ms ts k)) refl
    where
      most : next ms ts k ≤ opened_in ms (suc depth) k
      most =
          let s : sum_by (λ (x : Call). total_in ts x.method) (begun_by ms k) ≤ sum_by (λ (x : Call). opened_in ms depth x.method) (begun_by ms k) =
          sum_by-le-sum_by (λ (x : Call). total_in ts x.method) (λ (x : Call). opened_in ms depth x.method) (begun_by ms k) (λ (x : Call). below x.method) in
          omega (arith, s)

      grown : (j : ℕ) → total_in (set ts k (next ms ts k)) j ≤ opened_in ms (suc depth) j
      grown j =
          let old : total_in ts j ≤ opened_in ms depth j = below j in
          let more : opened_in ms depth j ≤ opened_in ms (suc depth) j = deeper depth j in
          set_bounded ts k j (next ms ts k) (opened_in ms (suc depth) j) (omega arith) (λ same. subst (λ (i : ℕ). next ms ts k ≤ opened_in ms (suc depth) i) (sym same) most)

      by_test : (b : Bool) → nat_lt (total_in ts k) (next ms ts k) ≡ b → IsReached ms (if b then set ts k (next ms ts k) else ts)
      by_test true is = (suc depth, grown)
      by_test false is = (depth, below)

  pub still_sized : (ts : List ℕ) (k : ℕ) → length (raised ms ts k) ≡ length ts
  still_sized ts k = by_test (nat_lt (total_in ts k) (next ms ts k))
    where
      by_test : (b : Bool) → length (if b then set ts k (next ms ts k) else ts) ≡ length ts
      by_test true = length-set ts k (next ms ts k)
      by_test false = refl

  pub none_raised : (ts : List ℕ) → length ts ≡ length ms → Raises ms ts ts false 0
  none_raised ts size = record {
    sized = size;
    reached = λ r. r;
    no_more = omega arith;
    less = λ (wrong : false ≡ true). absurd (cc_false wrong);
    same = λ _. refl;
    stable = λ _ k below. absurd (omega arith);
  }
    where
      cc_false : false ≡ true → ⊥
      cc_false wrong = cc

  -- one method further
  pub one_raised : (old now : List ℕ) (grew did : Bool) (count : ℕ) → count < length ms → did ≡ nat_lt (total_in now count) (next ms now count)
      → Raises ms old now grew count → Raises ms old (raised ms now count) (did || grew) (count + 1)
  one_raised old now grew did count within is before = by_test did is
    where
      size : length now ≡ length ms
      size = before.sized

      fewer : nat_lt (total_in now count) (next ms now count) ≡ true → room (set now count (next ms now count)) < room old
      fewer grows =
          let less : total_in now count < next ms now count = grind (arith, nat_tests) in
          let r : room (set now count (next ms now count)) < room now = room_less now count (next ms now count) (omega arith) less (omega arith) in
          let no_more : room now ≤ room old = before.no_more in
          omega arith

      stands : nat_lt (total_in now count) (next ms now count) ≡ false → next ms now count ≤ total_in now count
      stands falls = grind (arith, nat_tests)

      by_test : (b : Bool) → b ≡ nat_lt (total_in now count) (next ms now count) → Raises ms old (raised ms now count) (b || grew) (count + 1)
      by_test true grows = rw (← grows) (record {
        sized = length-set now count (next ms now count) ∙ size;
        reached = λ r. subst (IsReached ms) (ap (λ (b : Bool). if b then set now count (next ms now count) else now) (sym grows)) (still_reached now count (before.reached r));
        no_more = (let f = fewer (sym grows) in omega (arith, f));
        less = λ _. fewer (sym grows);
        same = λ wrong. absurd (never wrong);
        stable = λ wrong. absurd (never wrong);
      })
        where
          never : true ≡ false → ⊥
          never wrong = cc
      by_test false falls = rw (← falls) (record {
        sized = size;
        reached = before.reached;
        no_more = before.no_more;
        less = before.less;
        same = before.same;
        stable = λ none k below. by_place none k (two_ways k count) below;
      })
        where
          by_place : grew ≡ false → (k : ℕ) → (k < count) ⊎ (count ≤ k) → k < count + 1 → next ms old k ≤ total_in old k
          by_place none k (inl earlier) _ = before.stable none k earlier
          by_place none k (inr last) below =
              let place : count ≡ k = omega arith in
              let kept : now ≡ old = before.same none in
              subst (λ (j : ℕ). next ms old j ≤ total_in old j) place (subst (λ (ts : List ℕ). next ms ts count ≤ total_in ts count) kept (stands (sym falls)))

  -- totals that stand still are no less than what calls give
  fixed : (ts : List ℕ) → ((k : ℕ) → k < length ms → next ms ts k ≤ total_in ts k) → (depth k : ℕ) → total_in ts k < 1000001 → opened_in ms depth k ≤ total_in ts k
  fixed ts stable zero k low = omega arith
  fixed ts stable (suc depth) k low = by_place (fixed ts stable depth) (two_ways k (length ms))
    where
      by_place : ((j : ℕ) → total_in ts j < 1000001 → opened_in ms depth j ≤ total_in ts j) → (k < length ms) ⊎ (length ms ≤ k) → opened_in ms (suc depth) k ≤ total_in ts k
      by_place before (inl within) =
          let still : next ms ts k ≤ total_in ts k = stable k within in
          let s : sum_by (λ x. opened_in ms depth x.method) (begun_by ms k) ≤ sum_by (λ x. total_in ts x.method) (begun_by ms k) = sums_below ts (opened_in ms depth) before (begun_by ms k) (omega arith) in
          omega (arith, s)
      by_place before (inr beyond) =
          let none = none_beyond ms k beyond in
          let nothing : opened_in ms (suc depth) k ≡ 0 = rw (none.0, none.1) refl in
          omega (arith, nothing)

  -- what the code ends with
  pub standing : (old new : List ℕ) → Raises ms old new false (length ms) → IsReached ms old → AreTotals ms new
  standing old new r reached = record {
    least = r.reached reached;
    most = λ k depth low. subst (λ (ts : List ℕ). total_in ts k < 1000001 → opened_in ms depth k ≤ total_in ts k) (sym (r.same refl)) (fixed old (r.stable refl) depth k) low;
  }

  pub raised_sized : (old new : List ℕ) (k : ℕ) → new ≡ raised ms old k → length old ≡ length ms → length new ≡ length ms
  raised_sized old new k is size = ap length is ∙ (still_sized old k ∙ size)

  pub raised_reached : (old new : List ℕ) (k : ℕ) → new ≡ raised ms old k → IsReached ms old → IsReached ms new
  raised_reached old new k is reached = subst (IsReached ms) (sym is) (still_reached old k reached)

  pub raises_on : (old now new : List ℕ) (grew did after : Bool) (count : ℕ) → count < length ms → did ≡ nat_lt (total_in now count) (next ms now count) → new ≡ raised ms now count
      → after ≡ (did || grew) → Raises ms old now grew count → Raises ms old new after (count + 1)
  raises_on old now new grew did after count within is made joined before = rw (made, joined) (one_raised old now grew did count within is before)

  -- the test on all calls
  module _ (ts : List ℕ) (are : AreTotals ms ts) (k : ℕ) where
    abbrev spread : ℕ
    spread = statements_of ms k + sum_by (λ x. total_in ts x.method) (calls_by ms k)

    pub large_is : 1000001 ≤ min spread 1000001 → IsLarge ms k
    large_is much =
        let most : sum_by (λ (x : Call). total_in ts x.method) (calls_by ms k) ≤ sum_by (λ (x : Call). opened_in ms are.least.0 x.method) (calls_by ms k) =
        sum_by-le-sum_by (λ (x : Call). total_in ts x.method) (λ (x : Call). opened_in ms are.least.0 x.method) (calls_by ms k) (λ (x : Call). are.least.1 x.method) in
        (are.least.0, omega (arith, most))

    pub is_large : IsLarge ms k → 1000001 ≤ min spread 1000001
    is_large (depth, much) = by_size (two_ways spread 1000001)
      where
        by_size : (spread < 1000001) ⊎ (1000001 ≤ spread) → 1000001 ≤ min spread 1000001
        by_size (inl low) =
            let s : sum_by (λ (x : Call). opened_in ms depth x.method) (calls_by ms k) ≤ sum_by (λ (x : Call). total_in ts x.method) (calls_by ms k) =
            sums_below ts (opened_in ms depth) (λ j small. are.most j depth small) (calls_by ms k) (omega arith) in
            omega (arith, s)
        by_size (inr high) = omega arith

  -- the same of a method that is there
  pub large_test : (ts : List ℕ) → AreTotals ms ts → (k : ℕ) (r : Method) (calls : List Call) (total : ℕ) → slice_get ms k ≡ Some r → calls ≡ r.calls
      → total ≡ min (r.statements + sum_by (λ x. total_in ts x.method) calls) 1000001 → (IsTrue (nat_le 1000001 total) → IsLarge ms k) × (IsLarge ms k → IsTrue (nat_le 1000001 total))
  large_test ts are k r calls total here own is = (
    λ (test : IsTrue (nat_le 1000001 total)). large_is ts are k (let much : 1000001 ≤ total = grind (arith, nat_tests) in omega (arith, same)),
    λ large. (let much = is_large ts are k large in let high : 1000001 ≤ total = omega (arith, same) in grind (arith, nat_tests)),
  )
    where
      same : total ≡ min (statements_of ms k + sum_by (λ x. total_in ts x.method) (calls_by ms k)) 1000001
      same = is ∙ rw (own, here) refl
