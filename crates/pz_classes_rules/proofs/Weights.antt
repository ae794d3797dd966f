-- Over numbers that all differ and lie below n, a sum is at most the sum over all numbers below n.
use Rattle.std.proofs.Common.{◌≡◌, refl, ap, ℕ, zero, suc, ◌+◌, ◌<◌, ◌≤◌, Bool, true, false, List, [], ◌∷◌, eqb, if◌then◌else◌, arith}
use Rattle.std.specs.List.{list_any}
use Rattle.std.proofs.lemmas.Bool.{eqb-true}
use Rattle.std.proofs.lemmas.Bool.Decides.{nat_tests}

abbrev pub total : (ℕ → ℕ) → List ℕ → ℕ
total w [] = 0
total w (x ∷ xs) = w x + total w xs

abbrev pub below : (ℕ → ℕ) → ℕ → ℕ
below w zero = 0
below w (suc n) = below w n + w n

abbrev pub Differ : List ℕ → Type 0
Differ [] = Unit {0}
Differ (x ∷ xs) = (list_any (eqb x) xs ≡ false) × Differ xs

abbrev without : ℕ → List ℕ → List ℕ
without n [] = []
without n (x ∷ xs) = if eqb n x then without n xs else x ∷ without n xs

same_number : (n : ℕ) → eqb n n ≡ true
same_number n = grind (arith, nat_tests)

without_none : (n : ℕ) (xs : List ℕ) → list_any (eqb n) xs ≡ false → without n xs ≡ xs
without_none n [] none = refl
without_none n (x ∷ xs) none = by_test (eqb n x) refl (without_none n xs)
  where
    by_test : (b : Bool) → eqb n x ≡ b → (list_any (eqb n) xs ≡ false → without n xs ≡ xs) → without n (x ∷ xs) ≡ x ∷ xs
    by_test true is rest = let wrong : true ≡ false = rw is at none in cc
    by_test false is rest = rw is (ap (λ (ys : List ℕ). x ∷ ys) (rest (rw is at none)))

-- what is left has no n, and nothing new
left_over : (n q : ℕ) (xs : List ℕ) → list_any (eqb q) (without n xs) ≡ true → (list_any (eqb q) xs ≡ true) × (eqb n q ≡ false)
left_over n q [] is = cc
left_over n q (x ∷ xs) is = by_test (eqb n x) refl (left_over n q xs)
  where
    later : (list_any (eqb q) xs ≡ true) × (eqb n q ≡ false) → (list_any (eqb q) (x ∷ xs) ≡ true) × (eqb n q ≡ false)
    later r = by_first (eqb q x) refl
      where
        by_first : (b : Bool) → eqb q x ≡ b → (list_any (eqb q) (x ∷ xs) ≡ true) × (eqb n q ≡ false)
        by_first true same = (rw same refl, r.1)
        by_first false same = (rw same r.0, r.1)

    by_test : (b : Bool) → eqb n x ≡ b → (list_any (eqb q) (without n xs) ≡ true → (list_any (eqb q) xs ≡ true) × (eqb n q ≡ false)) → (list_any (eqb q) (x ∷ xs) ≡ true) × (eqb n q ≡ false)
    by_test true here rest = later (rest (rw here at is))
    by_test false here rest = by_first (eqb q x) refl
      where
        by_first : (b : Bool) → eqb q x ≡ b → (list_any (eqb q) (x ∷ xs) ≡ true) × (eqb n q ≡ false)
        by_first true same = let alike : q ≡ x = eqb-true q x same in (rw same refl, rw (alike, here) refl)
        by_first false same = later (rest (rw (here, same) at is))

not_among : (x n : ℕ) (xs : List ℕ) → list_any (eqb x) xs ≡ false → list_any (eqb x) (without n xs) ≡ false
not_among x n xs none = by_test (list_any (eqb x) (without n xs)) refl
  where
    by_test : (b : Bool) → list_any (eqb x) (without n xs) ≡ b → list_any (eqb x) (without n xs) ≡ false
    by_test true is = let there = (left_over n x xs is).0 in let wrong : true ≡ false = sym_then there in cc
      where
        sym_then : list_any (eqb x) xs ≡ true → true ≡ false
        sym_then there = cc
    by_test false is = is

differ_still : (n : ℕ) (xs : List ℕ) → Differ xs → Differ (without n xs)
differ_still n [] differ = tt
differ_still n (x ∷ xs) differ = by_test (eqb n x) refl (differ_still n xs differ.1)
  where
    by_test : (b : Bool) → eqb n x ≡ b → Differ (without n xs) → Differ (without n (x ∷ xs))
    by_test true is rest = rw is rest
    by_test false is rest = rw is (not_among x n xs differ.0, rest)

at_most_once : (w : ℕ → ℕ) (n : ℕ) (xs : List ℕ) → Differ xs → total w xs ≤ total w (without n xs) + w n
at_most_once w n [] differ = omega arith
at_most_once w n (x ∷ xs) differ = by_test (eqb n x) refl (at_most_once w n xs differ.1)
  where
    by_test : (b : Bool) → eqb n x ≡ b → total w xs ≤ total w (without n xs) + w n → total w (x ∷ xs) ≤ total w (without n (x ∷ xs)) + w n
    by_test true is rest =
        let alike : n ≡ x = eqb-true n x is in
        let gone : without n xs ≡ xs = without_none n xs (rw (← alike) at differ.0) in
        let same : w n ≡ w x = ap w alike in
        rw (is, gone) (omega (arith, same))
    by_test false is rest = rw is (omega (arith, rest))

pub total_below : (w : ℕ → ℕ) (n : ℕ) (xs : List ℕ) → Differ xs → ((q : ℕ) → list_any (eqb q) xs ≡ true → q < n) → total w xs ≤ below w n
total_below w zero [] differ inside = omega arith
total_below w zero (x ∷ xs) differ inside = let wrong : x < 0 = inside x (rw (same_number x) refl) in absurd (omega arith)
total_below w (suc n) xs differ inside =
    let rest = total_below w n (without n xs) (differ_still n xs differ) still in
    let once = at_most_once w n xs differ in
    omega arith
  where
    still : (q : ℕ) → list_any (eqb q) (without n xs) ≡ true → q < n
    still q is =
        let r = left_over n q xs is in
        let under : q < suc n = inside q r.0 in
        let other : eqb n q ≡ false = r.1 in
        grind (arith, nat_tests)
