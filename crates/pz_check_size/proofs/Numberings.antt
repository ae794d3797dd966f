-- Numbers of which each is another one, and less than there are: each number is one of them.
use Rattle.std.proofs.Common.{◌≡◌, ◌≢◌, refl, sym, ap, subst, ◌∙◌, ℕ, zero, suc, ◌+◌, ◌<◌, ◌≤◌, ◌⊎◌, inl, inr, Bool, true, false, nat_eq, List, length, get_or, Some, slice_get, if◌then◌else◌, arith, get_or-set_same, get_or-set_other}
use Rattle.std.proofs.Math.ListN.{set, length-set}
use Rattle.std.proofs.lemmas.Bool.Decides.{nat_tests}
use Rattle.std.proofs.lemmas.Option.{unwrap_or-slice_get, slice_get-get_or, get_or_from_slice_get, slice_get_within}
use Rattle.indexmap.proofs.IndexTableLemmas.Probe.{Into, OneToOne, pigeonhole}
use Rattle.pz_check_components.specs.Graph.{number_of}
use Rattle.pz_check_size.specs.devices.Counting.{IsNumbering, ArePlaced}

pub same_number : (u v : ℕ) → (u ≡ v) ⊎ (u ≢ v)
same_number u v = grind arith

-- a number that one of the first n has
record Has (f : ℕ → ℕ) (n i : ℕ) : Type 0 where
  pub which : ℕ
  pub below : which < n
  pub is : f which ≡ i

find : (f : ℕ → ℕ) (i n : ℕ) → Has f n i ⊎ ((c : ℕ) → c < n → f c ≢ i)
find f i zero = inr (λ c below is. omega arith)
find f i (suc n) = by_last (same_number (f n) i) (find f i n)
  where
    by_last : (f n ≡ i) ⊎ (f n ≢ i) → Has f n i ⊎ ((c : ℕ) → c < n → f c ≢ i) → Has f (suc n) i ⊎ ((c : ℕ) → c < suc n → f c ≢ i)
    by_last (inl here) _ = inl (record { which = n; below = omega arith; is = here })
    by_last (inr other) (inl h) = let less : h.which < n = h.below in inl (record { which = h.which; below = omega arith; is = h.is })
    by_last (inr other) (inr none) = inr (λ c below is. elim (same_number c n) [ inl same ↦ other (ap f (sym same) ∙ is) | inr less ↦ none c (omega arith) is ])

module _ (f : ℕ → ℕ) (n : ℕ) (into : Into f (suc n) (suc n)) (one : OneToOne f (suc n)) (i : ℕ) (small : i < suc n) (none : (c : ℕ) → c < suc n → f c ≢ i) where
  -- the greatest number becomes the one that is left out
  abbrev moved : ℕ → ℕ
  moved c = if nat_eq (f c) n then i else f c

  data Moved (c : ℕ) : Type 0 where
    greatest : f c ≡ n → moved c ≡ i → Moved c
    other : f c ≢ n → moved c ≡ f c → Moved c

  as_moved : (c : ℕ) → Moved c
  as_moved c = by_test (nat_eq (f c) n) refl
    where
      by_test : (t : Bool) → nat_eq (f c) n ≡ t → Moved c
      by_test true is = greatest (grind (arith, nat_tests)) (rw is refl)
      by_test false is = other (λ same. (let test : nat_eq (f c) n ≡ true = grind (arith, nat_tests) in let wrong : false ≡ true = sym is ∙ test in cc)) (rw is refl)

  moved_into : Into moved (suc n) n
  moved_into c below = by_case (as_moved c)
    where
      less : f c < suc n
      less = into c below

      by_case : Moved c → moved c < n
      by_case (greatest is was) = let left_out : f c ≢ i = none c below in omega (arith, left_out)
      by_case (other is was) = omega (arith, less)

  moved_one : OneToOne moved (suc n)
  moved_one c d first second same = by_cases (as_moved c) (as_moved d)
    where
      by_cases : Moved c → Moved d → c ≡ d
      by_cases (greatest is was) (greatest too also) = one c d first second (is ∙ sym too)
      by_cases (greatest is was) (other too also) = absurd (none d second (sym also ∙ (sym same ∙ was)))
      by_cases (other is was) (greatest too also) = absurd (none c first (sym was ∙ (same ∙ also)))
      by_cases (other is was) (other too also) = one c d first second (sym was ∙ (same ∙ also))

  impossible : ⊥
  impossible = let few : suc n ≤ n = pigeonhole (suc n) n moved moved_into moved_one in omega arith

onto : (f : ℕ → ℕ) (n : ℕ) → Into f n n → OneToOne f n → (i : ℕ) → i < n → Has f n i
onto f zero into one i small = absurd (omega arith)
onto f (suc n) into one i small = elim (find f i (suc n)) [ inl h ↦ h | inr none ↦ absurd (impossible f n into one i small none) ]

module _ {A : Type 0} (xs : List A) (k : ℕ) (x : A) where
  set_here : k < length xs → slice_get (set xs k x) k ≡ Some x
  set_here below =
      let size : length (set xs k x) ≡ length xs = length-set xs k x in
      slice_get-get_or (set xs k x) k x (omega arith) ∙ ap (λ (y : A). Some y) (get_or-set_same xs k x x below)

  set_elsewhere : (j : ℕ) (y : A) → j ≢ k → slice_get xs j ≡ Some y → slice_get (set xs k x) j ≡ Some y
  set_elsewhere j y apart at =
      let size : length (set xs k x) ≡ length xs = length-set xs k x in
      let inside : j < length xs = slice_get_within xs j y at in
      slice_get-get_or (set xs k x) j y (omega arith) ∙ ap (λ (z : A). Some z) (get_or-set_other xs k j x y apart ∙ get_or_from_slice_get xs j y y at)

module _ (numbers : List ℕ) (are : IsNumbering numbers) where
  number_at : (c : ℕ) → number_of numbers c ≡ get_or numbers c 0
  number_at c = unwrap_or-slice_get numbers c 0

  -- one more at its place
  module _ (order : List ℕ) (c : ℕ) (within : c < length numbers) (before : ArePlaced numbers order c) where
    abbrev k : ℕ
    k = number_of numbers c

    inside : k < length order
    inside =
        let size : length order ≡ length numbers = before.sized in
        let less : k < length numbers = are.bounded c within in
        omega arith

    placed : (d : ℕ) → d < c + 1 → slice_get (set order k c) (number_of numbers d) ≡ Some d
    placed d less = by_place (same_number d c)
      where
        by_place : (d ≡ c) ⊎ (d ≢ c) → slice_get (set order k c) (number_of numbers d) ≡ Some d
        by_place (inl same) = subst (λ (x : ℕ). slice_get (set order k c) (number_of numbers x) ≡ Some x) (sym same) (set_here order k c inside)
        by_place (inr apart) = set_elsewhere order k c (number_of numbers d) d (λ same. apart (are.apart d c (omega arith) within same)) (before.placed d (omega arith))

    at_number : ArePlaced numbers (set order k c) (c + 1)
    at_number = record { sized = length-set order k c ∙ before.sized; placed = placed }

  pub one_placed : (order : List ℕ) (c : ℕ) → c < length numbers → ArePlaced numbers order c → ArePlaced numbers (set order (get_or numbers c 0) c) (c + 1)
  one_placed order c within before = subst (λ (x : ℕ). ArePlaced numbers (set order x c) (c + 1)) (number_at c) (at_number order c within before)

  -- where all are placed, each place has a class
  pub placed_at : (order : List ℕ) → ArePlaced numbers order (length numbers) → (i : ℕ) → i < length numbers → (c : ℕ) × (c < length numbers) × (number_of numbers c ≡ i) × (slice_get order i ≡ Some c)
  placed_at order all i small =
      let h : Has (number_of numbers) (length numbers) i = onto (number_of numbers) (length numbers) are.bounded are.apart i small in
      (h.which, h.below, h.is, ap (λ (k : ℕ). slice_get order k) (sym h.is) ∙ all.placed h.which h.below)
