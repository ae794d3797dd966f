-- How often a class stands in a list, and in the rows of a table.
use Rattle.std.proofs.Common.{◌≡◌, refl, sym, ap, subst, ◌∙◌, ℕ, zero, suc, ◌<◌, ◌≤◌, ◌+◌, ◌==◌, if◌then◌else◌, Bool, true, false, cond, List, [], ◌∷◌, ◌++◌, length, map, set, get_or, eqb, Vec, arith}
use Rattle.std.specs.declared.alloc.Global.{Global}
use Rattle.std.specs.List.{IsDistinct, AllByRecursion, list_any}
use Rattle.std.proofs.lemmas.Bool.{eqb-true}
use Rattle.std.proofs.lemmas.Bool.Decides.{nat_tests}
use Rattle.std.proofs.lemmas.List.{length-map, map-set, get_or-set_same, get_or-set_other}
use Rattle.std.proofs.lemmas.Map.Keys.{IsDistinct-cons}
use Rattle.pz_classes_lineage.specs.devices.Rows.{one_if, times, row}

pub same_number : (n : ℕ) → eqb n n ≡ true
same_number n = grind (arith, nat_tests)

pub one_if_same : (n : ℕ) → one_if n n ≡ 1
one_if_same n = grind (arith, nat_tests)

pub one_if_other : (a b : ℕ) → eqb a b ≡ false → one_if a b ≡ 0
one_if_other a b other = rw other refl

pub times_append : (n : ℕ) (xs ys : List ℕ) → times n (xs ++ ys) ≡ times n xs + times n ys
times_append n [] ys = omega arith
times_append n (x ∷ xs) ys = let rest : times n (xs ++ ys) ≡ times n xs + times n ys = times_append n xs ys in omega arith

pub times_push : (n : ℕ) (xs : List ℕ) (x : ℕ) → times n (xs ++ x ∷ []) ≡ times n xs + one_if n x
times_push n xs x = let all : times n (xs ++ x ∷ []) ≡ times n xs + times n (x ∷ []) = times_append n xs (x ∷ []) in omega arith

-- a list in which a number stands has it
pub any_from_times : (n : ℕ) (xs : List ℕ) → 0 < times n xs → list_any (eqb n) xs ≡ true
any_from_times n [] some = absurd (omega arith)
any_from_times n (x ∷ xs) some = by_test (eqb n x) refl (any_from_times n xs)
  where
    by_test : (b : Bool) → eqb n x ≡ b → (0 < times n xs → list_any (eqb n) xs ≡ true) → list_any (eqb n) (x ∷ xs) ≡ true
    by_test true is rest = rw is refl
    by_test false is rest = let none : one_if n x ≡ 0 = one_if_other n x is in rw is (rest (omega arith))

pub times_from_any : (n : ℕ) (xs : List ℕ) → list_any (eqb n) xs ≡ true → 0 < times n xs
times_from_any n [] here = cc
times_from_any n (x ∷ xs) here = by_test (eqb n x) refl (times_from_any n xs)
  where
    by_test : (b : Bool) → eqb n x ≡ b → (list_any (eqb n) xs ≡ true → 0 < times n xs) → 0 < times n (x ∷ xs)
    by_test true is rest = let one : one_if n x ≡ 1 = rw is refl in omega arith
    by_test false is rest = let later : 0 < times n xs = rest (rw is at here) in omega arith

-- a number that is not in a list differs from each of its numbers
pub apart_from_any : (n : ℕ) (xs : List ℕ) → list_any (eqb n) xs ≡ false → AllByRecursion (λ y. eqb n y ≡ false) xs
apart_from_any n [] none = tt
apart_from_any n (x ∷ xs) none = by_test (eqb n x) refl (apart_from_any n xs)
  where
    by_test : (b : Bool) → eqb n x ≡ b → (list_any (eqb n) xs ≡ false → AllByRecursion (λ y. eqb n y ≡ false) xs) → AllByRecursion (λ y. eqb n y ≡ false) (x ∷ xs)
    by_test true is rest = let wrong : true ≡ false = rw is at none in cc
    by_test false is rest = (is, rest (rw is at none))

-- where no number stands twice, all differ
pub distinct : (xs : List ℕ) → ((n : ℕ) → times n xs ≤ 1) → IsDistinct eqb xs
unfolding IsDistinct
distinct [] once = tt
distinct (x ∷ xs) once =
    IsDistinct-cons eqb x xs (apart_from_any x xs (none (list_any (eqb x) xs) refl)) (distinct xs later)
  where
    none : (b : Bool) → list_any (eqb x) xs ≡ b → list_any (eqb x) xs ≡ false
    none true again = let twice : 0 < times x xs = times_from_any x xs again in let here : one_if x x ≡ 1 = one_if_same x in let only : times x (x ∷ xs) ≤ 1 = once x in absurd (omega arith)
    none false other = other

    later : (n : ℕ) → times n xs ≤ 1
    later n = let whole : times n (x ∷ xs) ≤ 1 = once n in omega arith

-- one more row, with nothing in it
pub push_empty : (rows : List (Vec ℕ Global)) (v : Vec ℕ Global) → v.items ≡ [] → ((p : ℕ) → row rows p ≡ []) → (p : ℕ) → row (rows ++ v ∷ []) p ≡ []
push_empty [] v empty all zero = empty
push_empty [] v empty all (suc p) = refl
push_empty (r ∷ rows) v empty all zero = all zero
push_empty (r ∷ rows) v empty all (suc p) = push_empty rows v empty (λ q. all (suc q)) p

pub read_row : (rows : List (Vec ℕ Global)) (i : ℕ) (r : Vec ℕ Global) → i < length rows → r ≡ get_or rows i r → row rows i ≡ r.items
read_row [] i r within is = absurd (omega arith)
read_row (s ∷ rows) zero r within is = ap (λ (x : Vec ℕ Global). x.items) (sym is)
read_row (s ∷ rows) (suc i) r within is = read_row rows i r (omega arith) is

not_same : (a b : ℕ) → eqb a b ≡ false → a ≡ b → ⊥
not_same a b other same = grind (arith, nat_tests)

-- one more class at the end of a row
pub set_row : (rows : List (Vec ℕ Global)) (i : ℕ) (r v : Vec ℕ Global) (x : ℕ) → i < length rows → r ≡ get_or rows i r → v.items ≡ r.items ++ x ∷ [] → (p c : ℕ) → times c (row (set rows i v) p) ≡ times c (row rows p) + (if i == p then one_if c x else 0)
set_row rows i r v x within was is p c = by_test (eqb i p) refl
  where
    lists : List (List ℕ)
    lists = map (λ (s : Vec ℕ Global). s.items) rows

    placed : row (set rows i v) p ≡ get_or (set lists i v.items) p []
    placed = ap (λ (l : List (List ℕ)). get_or l p []) (map-set (λ (s : Vec ℕ Global). s.items) rows i v)

    by_test : (b : Bool) → eqb i p ≡ b → times c (row (set rows i v) p) ≡ times c (row rows p) + cond b (one_if c x) 0
    by_test true same =
        let at : i ≡ p = eqb-true i p same in
        let there : get_or (set lists i v.items) i [] ≡ v.items = get_or-set_same lists i v.items [] (omega (arith, length-map rows (λ (s : Vec ℕ Global). s.items))) in
        let old : row rows i ≡ r.items = read_row rows i r within was in
        let more : times c (r.items ++ x ∷ []) ≡ times c r.items + one_if c x = times_push c r.items x in
        let new : times c (row (set rows i v) p) ≡ times c (r.items ++ x ∷ []) = ap (times c) (placed ∙ subst (λ (q : ℕ). get_or (set lists i v.items) q [] ≡ v.items) at there ∙ is) in
        let kept : times c (row rows p) ≡ times c r.items = ap (times c) (subst (λ (q : ℕ). row rows q ≡ r.items) at old) in
        omega arith
    by_test false other =
        let kept : times c (row (set rows i v) p) ≡ times c (row rows p) = ap (times c) (placed ∙ get_or-set_other lists i p v.items [] (λ same. not_same i p other (sym same))) in
        omega arith
