-- Lists by their places.
use Rattle.std.proofs.Common.{◌≡◌, refl, sym, ap, ◌∙◌, ℕ, zero, suc, ◌+◌, Bool, true, false, ◌||◌, IsTrue, List, [], ◌∷◌, ◌++◌, map, length, Some, slice_get, arith}
use Rattle.std.specs.List.{list_any}
use Rattle.std.specs.Str.{bytes_eq}
use Rattle.std.proofs.lemmas.Slice.Eq.{bytes_eq-Decides}
use Rattle.pz_classes_rules.specs.pz_syntax.declared.names.Id.{Id}
use Rattle.pz_classes_rules.specs.Apart.{AreApart}
use Rattle.pz_classes_rules.specs.pz_classes_code.Places.{place_from, place_in}
use Rattle.pz_classes_rules.specs.Members.{spelled}
use Rattle.pz_classes_rules.specs.RepeatRules.{same_name}

module _ {A : Type 0} where
  -- an element that passes the test
  pub record Passing (f : A → Bool) (xs : List A) : Type 0 where
    pub at : ℕ
    pub one : A
    pub there : slice_get xs at ≡ Some one
    pub passes : IsTrue (f one)

  pub any_found : (f : A → Bool) (xs : List A) → IsTrue (list_any f xs) → Passing f xs
  any_found f [] is = cc
  any_found f (x ∷ xs) is = by_test (any_found f xs) (f x) refl
    where
      by_test : (IsTrue (list_any f xs) → Passing f xs) → (b : Bool) → f x ≡ b → Passing f (x ∷ xs)
      by_test rest true does = record { at = 0; one = x; there = refl; passes = does }
      by_test rest false does = let r = rest (rw does at is) in record { at = suc r.at; one = r.one; there = r.there; passes = r.passes }

  pub any_at : (f : A → Bool) (xs : List A) (n : ℕ) (x : A) → slice_get xs n ≡ Some x → IsTrue (f x) → IsTrue (list_any f xs)
  any_at f [] n x there is = cc
  any_at f (y ∷ ys) zero x there is = let same : y ≡ x = cc in let does : f y ≡ true = ap f same ∙ is in rw does refl
  any_at f (y ∷ ys) (suc n) x there is = by_test (f y) (any_at f ys n x there is)
    where
      by_test : (b : Bool) → IsTrue (list_any f ys) → IsTrue (b || list_any f ys)
      by_test true rest = refl
      by_test false rest = rest

  pub in_later : (xs ys : List A) (n : ℕ) → slice_get (xs ++ ys) (length xs + n) ≡ slice_get ys n
  in_later [] ys n = let none : 0 + n ≡ n = omega arith in ap (slice_get ys) none
  in_later (x ∷ xs) ys n = let one : suc (length xs) + n ≡ suc (length xs + n) = omega arith in rw one (in_later xs ys n)

module _ {A B : Type 0} (f : A → B) where
  pub map_at : (xs : List A) (n : ℕ) (x : A) → slice_get xs n ≡ Some x → slice_get (map f xs) n ≡ Some (f x)
  map_at [] n x there = cc
  map_at (y ∷ ys) zero x there = let same : y ≡ x = cc in ap (λ z. Some (f z)) same
  map_at (y ∷ ys) (suc n) x there = map_at ys n x there

  -- what an element of the image comes from
  pub record From (xs : List A) (n : ℕ) (y : B) : Type 0 where
    pub one : A
    pub there : slice_get xs n ≡ Some one
    pub is : f one ≡ y

  pub map_there : (xs : List A) (n : ℕ) (y : B) → slice_get (map f xs) n ≡ Some y → From xs n y
  map_there [] n y there = cc
  map_there (x ∷ xs) zero y there = let same : f x ≡ y = cc in record { one = x; there = refl; is = same }
  map_there (x ∷ xs) (suc n) y there = let r = map_there xs n y there in record { one = r.one; there = r.there; is = r.is }

-- ---- names

-- where the name stands among these, the first of which has number n
pub record Placed (n : ℕ) (xs : List (List ℕ)) (name : List ℕ) (k : ℕ) : Type 0 where
  pub at : ℕ
  pub is : k ≡ at + n
  pub there : slice_get xs at ≡ Some name

pub placed_at : (n : ℕ) (xs : List (List ℕ)) (name : List ℕ) (k : ℕ) → place_from n xs name ≡ Some k → Placed n xs name k
placed_at n [] name k is = cc
placed_at n (x ∷ xs) name k is = by_test (placed_at (suc n) xs name k) (bytes_eq name x) refl
  where
    by_test : (place_from (suc n) xs name ≡ Some k → Placed (suc n) xs name k) → (b : Bool) → bytes_eq name x ≡ b → Placed n (x ∷ xs) name k
    by_test rest true does =
        let here : Some n ≡ Some k = rw does at is in
        let number : n ≡ k = cc in
        let same : name ≡ x = (bytes_eq-Decides name x).0 does in
        record { at = 0; is = omega arith; there = ap Some (sym same) }
    by_test rest false does =
        let r = rest (rw does at is) in
        let number : k ≡ r.at + suc n = r.is in
        record { at = suc r.at; is = omega arith; there = r.there }

pub some_place : (n : ℕ) (xs : List (List ℕ)) (name : List ℕ) (j : ℕ) → slice_get xs j ≡ Some name → (k : ℕ) × (place_from n xs name ≡ Some k)
some_place n [] name j there = cc
some_place n (x ∷ xs) name zero there = let same : x ≡ name = cc in let does : bytes_eq name x ≡ true = (bytes_eq-Decides name x).1 (sym same) in (n, rw does refl)
some_place n (x ∷ xs) name (suc j) there = by_test (some_place (suc n) xs name j there) (bytes_eq name x) refl
  where
    by_test : (k : ℕ) × (place_from (suc n) xs name ≡ Some k) → (b : Bool) → bytes_eq name x ≡ b → (k : ℕ) × (place_from n (x ∷ xs) name ≡ Some k)
    by_test rest true does = (n, rw does refl)
    by_test rest false does = (rest.0, rw does rest.1)

-- none of these names stands twice
abbrev pub AreOnce : List (List ℕ) → Type 0
AreOnce xs = (i j : ℕ) (x : List ℕ) → slice_get xs i ≡ Some x → slice_get xs j ≡ Some x → i ≡ j

pub name_there : (xs : List (List ℕ)) (name : List ℕ) (k : ℕ) → place_in xs name ≡ Some k → slice_get xs k ≡ Some name
name_there xs name k is =
    let w = placed_at 0 xs name k is in
    let number : k ≡ w.at + 0 = w.is in
    let same : k ≡ w.at = omega arith in
    rw same w.there

pub place_of : (xs : List (List ℕ)) (name : List ℕ) (j : ℕ) → AreOnce xs → slice_get xs j ≡ Some name → place_in xs name ≡ Some j
place_of xs name j once there =
    let found = some_place 0 xs name j there in
    found.1 ∙ ap Some (once found.0 j name (name_there xs name found.0 found.1) there)

pub ids_once : (ids : List Id) → AreApart same_name ids → AreOnce (spelled ids)
ids_once ids apart i j x first second =
    let one = map_there (λ (y : Id). y.name) ids i x first in
    let two = map_there (λ (y : Id). y.name) ids j x second in
    apart i j one.one two.one one.there two.there ((bytes_eq-Decides one.one.name two.one.name).1 (one.is ∙ sym two.is))
