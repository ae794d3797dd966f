-- Sums by blocks.
use Rattle.std.proofs.Common.{◌≡◌, ◌≢◌, ◌≤◌, ◌<◌, ◌+◌, ◌-◌, ◌*◌, ◌⊎◌, inl, inr, refl, sym, ◌∙◌, ap, ℕ, zero, suc, List, [], ◌∷◌, ◌++◌, length, get_or, set, take, drop, replicate, Option, Some, None, arith}
use Rattle.std.specs.Prelude.{sum}
use Rattle.std.specs.Option.{MatchOption}
use Rattle.std.proofs.lemmas.List.{take_all, length-append, length-replicate, length-set, get_or-set_same, get_or-set_other, get_or_append_left, get_or-append_right, get_or-replicate}
use Rattle.std.proofs.lemmas.List.Sums.{sum_by-cons, sum_by_more, sum_by-take-drop, sum_by-take-le, sum_by-set}
use Rattle.pz_match_lists.specs.devices.Blocks.{AreSummed}

-- The first of some numbers, summed

more : (xs : List ℕ) (i : ℕ) → i < length xs → sum (take (i + 1) xs) ≡ sum (take i xs) + get_or xs i 0
more xs i lt = sum_by_more (λ x. x) xs i 0 lt

pub whole : (xs : List ℕ) (n : ℕ) → length xs ≤ n → sum (take n xs) ≡ sum xs
whole xs n le = ap sum (take_all n xs le)

rises : (xs : List ℕ) (m n : ℕ) → m ≤ n → sum (take m xs) ≤ sum (take n xs)
rises xs zero n le = omega arith
rises [] (suc m) zero le = absurd (omega (arith, le))
rises [] (suc m) (suc n) le = omega arith
rises (x ∷ xs) (suc m) zero le = absurd (omega (arith, le))
rises (x ∷ xs) (suc m) (suc n) le = omega (arith, sum_by-cons (λ y. y) x (take m xs), sum_by-cons (λ y. y) x (take n xs), rises xs m n (omega (arith, le)))

below : (xs : List ℕ) (p y m : ℕ) → m ≤ p → sum (take m (set xs p y)) ≡ sum (take m xs)
below xs p y zero le = refl
below [] p y (suc m) le = refl
below (x ∷ xs) zero y (suc m) le = absurd (omega (arith, le))
below (x ∷ xs) (suc p) y (suc m) le = omega (arith, sum_by-cons (λ z. z) x (take m (set xs p y)), sum_by-cons (λ z. z) x (take m xs), below xs p y m (omega (arith, le)))

above : (xs : List ℕ) (p y m : ℕ) → p < length xs → p < m → sum (take m (set xs p y)) + get_or xs p 0 ≡ sum (take m xs) + y
above [] p y m lt before = absurd (omega (arith, lt))
above (x ∷ xs) p y zero lt before = absurd (omega (arith, before))
above (x ∷ xs) zero y (suc m) lt before = omega (arith, sum_by-cons (λ z. z) y (take m xs), sum_by-cons (λ z. z) x (take m xs))
above (x ∷ xs) (suc p) y (suc m) lt before =
    omega (arith, sum_by-cons (λ z. z) x (take m (set xs p y)), sum_by-cons (λ z. z) x (take m xs), above xs p y m (omega (arith, lt)) (omega (arith, before)))

zeros : (m n : ℕ) → sum (take m (replicate n 0)) ≡ 0
zeros zero n = refl
zeros (suc m) zero = refl
zeros (suc m) (suc n) = omega (arith, sum_by-cons (λ z. z) 0 (take m (replicate n 0)), zeros m n)

extended : (xs : List ℕ) (m n : ℕ) → sum (take m (xs ++ replicate n 0)) ≡ sum (take m xs)
extended xs zero n = refl
extended [] (suc m) n = zeros (suc m) n
extended (x ∷ xs) (suc m) n = omega (arith, sum_by-cons (λ z. z) x (take m (xs ++ replicate n 0)), sum_by-cons (λ z. z) x (take m xs), extended xs m n)

-- Blocks

pub none_summed : AreSummed [] [] 0
none_summed = record { covered = omega arith; summed = λ k lt. absurd (omega (arith, lt)); total_is = refl }

module _ (numbers blocks : List ℕ) (total : ℕ) (h : AreSummed numbers blocks total) where
  blocks_before : (b : ℕ) → b ≤ length blocks → sum (take b blocks) ≡ sum (take (64 * b) numbers)
  blocks_before zero le = let same : 0 ≡ 64 * zero = omega arith in ap (λ n. sum (take n numbers)) same
  blocks_before (suc b) le =
      let one : suc b ≡ b + 1 = omega arith in
      let first : sum (take (suc b) blocks) ≡ sum (take b blocks) + get_or blocks b 0 = ap (λ n. sum (take n blocks)) one ∙ more blocks b (omega (arith, le)) in
      let before = blocks_before b (omega (arith, le)) in
      let here = h.summed b (omega (arith, le)) in
      let end : 64 * b + 64 ≡ 64 * suc b = omega arith in
      omega (arith, first, before, here) ∙ ap (λ n. sum (take n numbers)) end

  blocks_whole : sum blocks ≡ sum numbers
  blocks_whole = sym (whole blocks (length blocks) (omega arith)) ∙ (blocks_before (length blocks) (omega arith) ∙ whole numbers (64 * length blocks) h.covered)

  -- the block in which it is begins within
  pub begins : (b left : ℕ) → b < length blocks → left < get_or blocks b 0 → 64 * b < length numbers
  begins b left lt under = by (order (64 * b) (length numbers))
    where
      order : (i j : ℕ) → (i < j) ⊎ (j ≤ i)
      order i j = grind arith

      by : (64 * b < length numbers) ⊎ (length numbers ≤ 64 * b) → 64 * b < length numbers
      by (inl inside) = inside
      by (inr past) = absurd (omega (arith, h.summed b lt, under, whole numbers (64 * b) past, whole numbers (64 * b + 64) (omega (arith, past))))

  pub nowhere : (rest : ℕ) → sum (drop 0 blocks) ≤ rest → sum numbers ≤ rest
  nowhere rest le = omega (arith, le, blocks_whole)

  pub found : (result : Option (ℕ × ℕ)) (b from left rest : ℕ) → from ≡ 64 * b → b < length blocks → left < get_or blocks b 0 → sum (take b blocks) + left ≡ sum (take 0 blocks) + rest
      → MatchOption result (sum (drop from numbers) ≤ left) (λ x. (x.0 < length numbers) × (sum (take x.0 numbers) + x.1 ≡ sum (take from numbers) + left) × (x.1 < get_or numbers x.0 0))
      → MatchOption result (sum numbers ≤ rest) (λ x. (x.0 < length numbers) × (sum (take x.0 numbers) + x.1 ≡ rest) × (x.1 < get_or numbers x.0 0))
  found None b from left rest is lt under adds behind =
      let parts = sum_by-take-drop (λ x. x) numbers from in
      let same = ap (λ n. sum (take n numbers)) is in
      let all = sum_by-take-le (λ x. x) numbers (64 * b + 64) in
      absurd (omega (arith, behind, under, parts, same, all, h.summed b lt))
  found (Some x) b from left rest is lt under adds there =
      let before = blocks_before b (omega (arith, lt)) in
      let same = ap (λ n. sum (take n numbers)) is in
      (there.0, (let sums = there.1 in omega (arith, before, same, adds, sums)), there.2)

  -- further blocks, and further zeros
  pub more_blocks : (n : ℕ) → AreSummed numbers (blocks ++ replicate n 0) total
  more_blocks n = record {
    covered = omega (arith, h.covered, length-append blocks (replicate n 0));
    summed = λ k lt. by k lt (order k (length blocks));
    total_is = h.total_is;
  }
    where
      order : (i j : ℕ) → (i < j) ⊎ (j ≤ i)
      order i j = grind arith

      by : (k : ℕ) → k < length (blocks ++ replicate n 0) → (k < length blocks) ⊎ (length blocks ≤ k) → sum (take (64 * k) numbers) + get_or (blocks ++ replicate n 0) k 0 ≡ sum (take (64 * k + 64) numbers)
      by k lt (inl inside) = let same = get_or_append_left blocks (replicate n 0) 0 k inside in omega (arith, same, h.summed k inside)
      by k lt (inr behind) =
          let long : length (blocks ++ replicate n 0) ≡ length blocks + n = length-append blocks (replicate n 0) ∙ ap (λ m. length blocks + m) (length-replicate {A = ℕ} n 0) in
          let zero_there : get_or (blocks ++ replicate n 0) k 0 ≡ 0 = get_or-append_right blocks (replicate n 0) (length blocks) k 0 refl behind ∙ get_or-replicate n _ 0 0 (omega (arith, lt, long, behind)) in
          let past : length numbers ≤ 64 * k = omega (arith, h.covered, behind) in
          omega (arith, zero_there, whole numbers (64 * k) past, whole numbers (64 * k + 64) (omega (arith, past)))

  pub more_numbers : (n : ℕ) → length numbers + n ≤ 64 * length blocks → AreSummed (numbers ++ replicate n 0) blocks total
  more_numbers n le = record {
    covered = omega (arith, le, length-append numbers (replicate n 0), length-replicate {A = ℕ} n 0);
    summed = λ k lt. omega (arith, h.summed k lt, extended numbers (64 * k) n, extended numbers (64 * k + 64) n);
    total_is =
        let all : sum (numbers ++ replicate n 0) ≡ sum numbers
        = sym (whole (numbers ++ replicate n 0) (length (numbers ++ replicate n 0)) (omega arith))
        ∙ (extended numbers (length (numbers ++ replicate n 0)) n ∙ whole numbers (length (numbers ++ replicate n 0)) (omega (arith, length-append numbers (replicate n 0)))) in
        h.total_is ∙ sym all;
  }

  pub reached : (n m : ℕ) → m ≡ length blocks → length blocks ≤ n → AreSummed numbers (take n blocks ++ replicate (n - m) 0) total
  reached n m is le = rw (take_all n blocks le) (more_blocks (n - m))

  pub grown : (n m : ℕ) → m ≡ length numbers → length numbers ≤ n → n ≤ 64 * length blocks → AreSummed (take n numbers ++ replicate (n - m) 0) blocks total
  grown n m is le room = rw (take_all n numbers le) (more_numbers (n - m) (omega (arith, is, le, room)))

  -- another number at a place of a block
  module _ (p b : ℕ) (lt : p < length numbers) (from : 64 * b ≤ p) (to : p < 64 * b + 64) where
    pub in_block : (b < length blocks) × (get_or numbers p 0 ≤ get_or blocks b 0) × (get_or blocks b 0 ≤ total)
    in_block =
        let inside : b < length blocks = omega (arith, h.covered, lt, from) in
        let sums = h.summed b inside in (
          inside,
          omega (arith, sums, more numbers p lt, rises numbers (64 * b) p from, rises numbers (p + 1) (64 * b + 64) (omega (arith, to))),
          omega (arith, sums, h.total_is, sum_by-take-le (λ x. x) numbers (64 * b + 64)),
        )

    pub put_summed : (y v sum_now : ℕ) → v + get_or numbers p 0 ≡ get_or blocks b 0 + y → sum_now + get_or numbers p 0 ≡ total + y → AreSummed (set numbers p y) (set blocks b v) sum_now
    put_summed y v sum_now block now = record {
      covered = omega (arith, h.covered, length-set numbers p y, length-set blocks b v);
      summed = λ k inside. by k (omega (arith, inside, length-set blocks b v)) (three k b);
      total_is = omega (arith, now, h.total_is, sum_by-set (λ x. x) numbers p y 0 lt);
    }
      where
        three : (i j : ℕ) → (i < j) ⊎ ((i ≡ j) ⊎ (j < i))
        three i j = grind arith

        apart : (k : ℕ) → k ≢ b → get_or (set blocks b v) k 0 ≡ get_or blocks k 0
        apart k other = get_or-set_other blocks b k v 0 other

        by : (k : ℕ) → k < length blocks → (k < b) ⊎ ((k ≡ b) ⊎ (b < k)) → sum (take (64 * k) (set numbers p y)) + get_or (set blocks b v) k 0 ≡ sum (take (64 * k + 64) (set numbers p y))
        by k inside (inl before) =
            omega (
              arith,
              h.summed k inside,
              apart k (λ same. omega (arith, before, same)),
              below numbers p y (64 * k) (omega (arith, before, from)),
              below numbers p y (64 * k + 64) (omega (arith, before, from)),
            )
        by k inside (inr (inl same)) =
            let here : get_or (set blocks b v) k 0 ≡ v = ap (λ n. get_or (set blocks b v) n 0) same ∙ get_or-set_same blocks b v 0 in_block.0 in
            let old : get_or blocks k 0 ≡ get_or blocks b 0 = ap (λ n. get_or blocks n 0) same in
            omega (
              arith,
              h.summed k inside,
              here,
              old,
              block,
              below numbers p y (64 * k) (omega (arith, same, from)),
              above numbers p y (64 * k + 64) lt (omega (arith, same, to)),
            )
        by k inside (inr (inr behind)) =
            omega (
              arith,
              h.summed k inside,
              apart k (λ same. omega (arith, behind, same)),
              above numbers p y (64 * k) lt (omega (arith, behind, to)),
              above numbers p y (64 * k + 64) lt (omega (arith, behind, to)),
            )
