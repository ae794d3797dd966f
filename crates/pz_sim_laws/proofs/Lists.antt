-- Lists in order, what they contain, and what stands at a place.
use Rattle.std.proofs.Common.{◌≡◌, ◌≢◌, ◌<◌, ◌+◌, ◌⊎◌, inl, inr, ℕ, zero, suc, Bool, true, false, cond, List, [], ◌∷◌, ◌++◌, map, set, length, Some, get_or, refl, sym, subst, ap, ◌∙◌, arith}
use Rattle.std.specs.List.{All, AllPairs, AllZip, Contains, filter, flat_map}
use Rattle.std.specs.Prelude.{slice_get}
use Rattle.std.proofs.lemmas.Bool.{true≢false}
use Rattle.std.proofs.lemmas.Option.{same_Some, slice_get_within, get_or_from_slice_get}
use Rattle.std.proofs.lemmas.List.{length-map, get_or-map}
use Rattle.std.proofs.lemmas.List.Elements.{All-append, Contains-get_or, Contains-append_left, Contains-append_right}
use Rattle.std.proofs.lemmas.List.Kept.{AllPairs-cons}

pub Contains-cases : {X : Type 0} (y : X) (ys : List X) (x : X) → Contains (y ∷ ys) x → (x ≡ y) ⊎ Contains ys x
Contains-cases y ys x (zero, within, is) = inl (sym is)
Contains-cases y ys x (suc k, within, is) = inr (k, omega arith, is)

pub Contains-none : {X : Type 0} (x : X) → Contains [] x → ⊥
Contains-none x (k, within, is) = omega (arith, within)

pub Contains-first : {X : Type 0} (x : X) (xs : List X) → Contains (x ∷ xs) x
Contains-first x xs = (0, omega arith, refl)

pub Contains-later : {X : Type 0} (y : X) (xs : List X) (x : X) → Contains xs x → Contains (y ∷ xs) x
Contains-later y xs x (k, within, is) = (suc k, omega arith, is)

pub AllPairs-nil : {X : Type 0} (R : X → X → Type 0) → AllPairs R []
AllPairs-nil R i j d before within = absurd (omega arith)

pub AllPairs-head : {X : Type 0} (R : X → X → Type 0) (x : X) (xs : List X) → AllPairs R (x ∷ xs) → All (R x) xs
AllPairs-head R x xs pairs k d within = pairs 0 (suc k) d (omega arith) (omega arith)

pub AllPairs-tail : {X : Type 0} (R : X → X → Type 0) (x : X) (xs : List X) → AllPairs R (x ∷ xs) → AllPairs R xs
AllPairs-tail R x xs pairs i j d before within = pairs (suc i) (suc j) d (omega arith) (omega arith)

pub AllPairs-append : {X : Type 0} (R : X → X → Type 0) (xs ys : List X) → AllPairs R xs → AllPairs R ys → ((x y : X) → Contains xs x → Contains ys y → R x y) → AllPairs R (xs ++ ys)
AllPairs-append R [] ys first second across = second
AllPairs-append {X} R (x ∷ xs) ys first second across =
    AllPairs-cons R x (xs ++ ys) (All-append (R x) xs ys (AllPairs-head R x xs first) (λ k d within. across x (get_or ys k d) (Contains-first x xs) (Contains-get_or ys k d within)))
    (AllPairs-append R xs ys (AllPairs-tail R x xs first) second (λ y z there. across y z (Contains-later x xs y there)))

pub AllPairs-weaker : {X : Type 0} (R S : X → X → Type 0) (xs : List X) → ((x y : X) → Contains xs x → Contains xs y → R x y → S x y) → AllPairs R xs → AllPairs S xs
AllPairs-weaker R S xs each pairs i j d before within =
    each (get_or xs i d) (get_or xs j d) (Contains-get_or xs i d (omega (arith, before, within))) (Contains-get_or xs j d within) (pairs i j d before within)

-- an element of a list that has so many
pub an_element : {X : Type 0} (xs : List X) (k : ℕ) → k < length xs → X
an_element [] k within = absurd (omega (arith, within))
an_element (x ∷ xs) k within = x

pub some_there : {X : Type 0} (xs : List X) (k : ℕ) → k < length xs → (x : X) × (slice_get xs k ≡ Some x)
some_there [] k within = absurd (omega (arith, within))
some_there (x ∷ xs) zero within = (x, refl)
some_there (x ∷ xs) (suc k) within = some_there xs k (omega (arith, within))

pub contains_at : {X : Type 0} (xs : List X) (k : ℕ) (x : X) → slice_get xs k ≡ Some x → Contains xs x
contains_at xs k x is = (k, slice_get_within xs k x is, get_or_from_slice_get xs k x x is)

pub all_got : {X : Type 0} (P : X → Type 0) (xs : List X) (x : X) → All P xs → Contains xs x → P x
all_got P xs x all (k, within, is) = subst P is (all k x within)

pub all_by : {X : Type 0} (P : X → Type 0) (xs : List X) → ((x : X) → Contains xs x → P x) → All P xs
all_by P xs each k d within = each (get_or xs k d) (Contains-get_or xs k d within)

pub got_cons : {X : Type 0} (xs ys : List X) (k : ℕ) (x : X) → slice_get xs k ≡ Some x → slice_get (xs ++ ys) k ≡ Some x
got_cons [] ys k x is = cc
got_cons (z ∷ xs) ys zero x is = is
got_cons (z ∷ xs) ys (suc k) x is = got_cons xs ys k x is

pub got_behind : {X : Type 0} (xs ys : List X) (k : ℕ) → slice_get (xs ++ ys) (length xs + k) ≡ slice_get ys k
got_behind [] ys k = ap (slice_get ys) (let e : 0 + k ≡ k = omega arith in e)
got_behind (z ∷ xs) ys k = ap (slice_get (z ∷ (xs ++ ys))) (let e : suc (length xs) + k ≡ suc (length xs + k) = omega arith in e) ∙ got_behind xs ys k

-- what is seen in another way
module _ {X Y : Type 0} (f : X → Y) where
  pub got_mapped : (xs : List X) (k : ℕ) (x : X) → slice_get xs k ≡ Some x → slice_get (map f xs) k ≡ Some (f x)
  got_mapped [] k x is = cc
  got_mapped (z ∷ xs) zero x is = ap (λ y. Some (f y)) (same_Some z x is)
  got_mapped (z ∷ xs) (suc k) x is = got_mapped xs k x is

  pub from_mapped : (xs : List X) (k : ℕ) (y : Y) → slice_get (map f xs) k ≡ Some y → (x : X) × (slice_get xs k ≡ Some x) × (f x ≡ y)
  from_mapped [] k y is = cc
  from_mapped (x ∷ xs) zero y is = (x, refl, same_Some (f x) y is)
  from_mapped (x ∷ xs) (suc k) y is = from_mapped xs k y is

  pub Contains-map : (xs : List X) (x : X) → Contains xs x → Contains (map f xs) (f x)
  Contains-map xs x (k, within, is) =
      let inside : k < length (map f xs) = subst (λ (n : ℕ). k < n) (sym (length-map xs f)) within in
      (k, inside, get_or-map f xs k x (f x) within ∙ ap f is)

  pub record MapsTo (xs : List X) (y : Y) : Type 0 where
    pub one : X
    pub within : Contains xs one
    pub is : f one ≡ y

  pub from_map : (xs : List X) (y : Y) → Contains (map f xs) y → MapsTo xs y
  from_map [] y there = absurd (Contains-none y there)
  from_map (x ∷ xs) y there = by (Contains-cases (f x) (map f xs) y there) (λ later. from_map xs y later)
    where
      by : (y ≡ f x) ⊎ Contains (map f xs) y → (Contains (map f xs) y → MapsTo xs y) → MapsTo (x ∷ xs) y
      by (inl same) go = record { one = x; within = Contains-first x xs; is = sym same }
      by (inr later) go = let z = go later in record { one = z.one; within = Contains-later x xs z.one z.within; is = z.is }

  pub AllPairs-map : (R : X → X → Type 0) (S : Y → Y → Type 0) (xs : List X) → ((x y : X) → R x y → S (f x) (f y)) → AllPairs R xs → AllPairs S (map f xs)
  AllPairs-map R S [] each pairs = AllPairs-nil S
  AllPairs-map R S (x ∷ xs) each pairs =
      AllPairs-cons S (f x) (map f xs) (all_by (S (f x)) (map f xs) (λ y there. let z = from_map xs y there in subst (S (f x)) z.is (each x z.one (all_got (R x) xs z.one (AllPairs-head R x xs pairs) z.within))))
      (AllPairs-map R S xs each (AllPairs-tail R x xs pairs))

-- the lists of a list, one behind the other
pub record InOne {X : Type 0} (rows : List (List X)) (x : X) : Type 0 where
  pub number : ℕ
  pub row : List X
  pub is : slice_get rows number ≡ Some row
  pub within : Contains row x

pub Contains-append_cases : {X : Type 0} (xs ys : List X) (x : X) → Contains (xs ++ ys) x → Contains xs x ⊎ Contains ys x
Contains-append_cases [] ys x there = inr there
Contains-append_cases {X} (z ∷ xs) ys x there = by (Contains-cases z (xs ++ ys) x there) (λ later. Contains-append_cases xs ys x later)
  where
    more : Contains xs x ⊎ Contains ys x → Contains (z ∷ xs) x ⊎ Contains ys x
    more (inl h) = inl (Contains-later z xs x h)
    more (inr h) = inr h

    by : (x ≡ z) ⊎ Contains (xs ++ ys) x → (Contains (xs ++ ys) x → Contains xs x ⊎ Contains ys x) → Contains (z ∷ xs) x ⊎ Contains ys x
    by (inl same) go = inl (subst (λ (y : X). Contains (z ∷ xs) y) (sym same) (Contains-first z xs))
    by (inr later) go = more (go later)

pub in_one : {X : Type 0} (rows : List (List X)) (x : X) → Contains (flat_map (λ row. row) rows) x → InOne rows x
in_one [] x there = absurd (Contains-none x there)
in_one (row ∷ rows) x there = by (Contains-append_cases row (flat_map (λ row. row) rows) x there) (λ later. in_one rows x later)
  where
    by : Contains row x ⊎ Contains (flat_map (λ row. row) rows) x → (Contains (flat_map (λ row. row) rows) x → InOne rows x) → InOne (row ∷ rows) x
    by (inl here) go = record { number = 0; row = row; is = refl; within = here }
    by (inr later) go = let y = go later in record { number = suc y.number; row = y.row; is = y.is; within = y.within }

pub from_one : {X : Type 0} (rows : List (List X)) (k : ℕ) (row : List X) (x : X) → slice_get rows k ≡ Some row → Contains row x → Contains (flat_map (λ row. row) rows) x
from_one [] k row x is there = cc
from_one {X} (z ∷ rows) zero row x is there = Contains-append_left z (flat_map (λ row. row) rows) x (subst (λ (r : List X). Contains r x) (sym (same_Some z row is)) there)
from_one (z ∷ rows) (suc k) row x is there = Contains-append_right z (flat_map (λ row. row) rows) x (from_one rows k row x is there)

-- what was replaced

pub set_same : {X : Type 0} (xs : List X) (i : ℕ) (y x : X) → slice_get (set xs i y) i ≡ Some x → x ≡ y
set_same [] i y x is = cc
set_same (z ∷ xs) zero y x is = sym (same_Some y x is)
set_same (z ∷ xs) (suc i) y x is = set_same xs i y x is

pub set_there : {X : Type 0} (xs : List X) (i : ℕ) (y z : X) → slice_get xs i ≡ Some z → slice_get (set xs i y) i ≡ Some y
set_there [] i y z is = cc
set_there (x ∷ xs) zero y z is = refl
set_there (x ∷ xs) (suc i) y z is = set_there xs i y z is

pub set_other : {X : Type 0} (xs : List X) (i j : ℕ) (y : X) → i ≢ j → slice_get (set xs i y) j ≡ slice_get xs j
set_other [] i j y apart = refl
set_other (x ∷ xs) zero zero y apart = absurd (apart refl)
set_other (x ∷ xs) zero (suc j) y apart = refl
set_other (x ∷ xs) (suc i) zero y apart = refl
set_other (x ∷ xs) (suc i) (suc j) y apart = set_other xs i j y (λ e. apart (ap suc e))

-- elements that stand for those of another list
module _ {X N : Type 0} (C : X → N → Type 0) where
  pub record Paired (x : X) (ns : List N) : Type 0 where
    pub other : N
    pub within : Contains ns other
    pub pairs : C x other

  pub zip_left : (xs : List X) (ns : List N) → AllZip C xs ns → (x : X) → Contains xs x → Paired x ns
  zip_left [] ns zip x there = absurd (Contains-none x there)
  zip_left (y ∷ xs) [] zip x there = absurd zip
  zip_left (y ∷ xs) (n ∷ ns) zip x there = by (Contains-cases y xs x there) (λ later. zip_left xs ns zip.1 x later)
    where
      by : (x ≡ y) ⊎ Contains xs x → (Contains xs x → Paired x ns) → Paired x (n ∷ ns)
      by (inl same) go = record { other = n; within = Contains-first n ns; pairs = subst (λ (z : X). C z n) (sym same) zip.0 }
      by (inr later) go = let p = go later in record { other = p.other; within = Contains-later n ns p.other p.within; pairs = p.pairs }

  pub record PairedTo (xs : List X) (n : N) : Type 0 where
    pub one : X
    pub within : Contains xs one
    pub pairs : C one n

  pub zip_right : (xs : List X) (ns : List N) → AllZip C xs ns → (n : N) → Contains ns n → PairedTo xs n
  zip_right [] [] zip n there = absurd (Contains-none n there)
  zip_right [] (m ∷ ns) zip n there = absurd zip
  zip_right (x ∷ xs) [] zip n there = absurd zip
  zip_right (x ∷ xs) (m ∷ ns) zip n there = by (Contains-cases m ns n there) (λ later. zip_right xs ns zip.1 n later)
    where
      by : (n ≡ m) ⊎ Contains ns n → (Contains ns n → PairedTo xs n) → PairedTo (x ∷ xs) n
      by (inl same) go = record { one = x; within = Contains-first x xs; pairs = subst (λ (z : N). C x z) (sym same) zip.0 }
      by (inr later) go = let p = go later in record { one = p.one; within = Contains-later x xs p.one p.within; pairs = p.pairs }

  pub zip_ordered : (R : X → X → Type 0) (S : N → N → Type 0) → ((x y : X) (m n : N) → C x m → C y n → S m n → R x y)
      → (xs : List X) (ns : List N) → AllZip C xs ns → AllPairs S ns → AllPairs R xs
  zip_ordered R S each [] ns zip pairs = AllPairs-nil R
  zip_ordered R S each (x ∷ xs) [] zip pairs = absurd zip
  zip_ordered R S each (x ∷ xs) (n ∷ ns) zip pairs =
      AllPairs-cons R x xs (all_by (R x) xs (λ y there. let p = zip_left xs ns zip.1 y there in each x y n p.other zip.0 p.pairs (all_got (S n) ns p.other (AllPairs-head S n ns pairs) p.within)))
      (zip_ordered R S each xs ns zip.1 (AllPairs-tail S n ns pairs))

  pub zip_weaker : (D : X → N → Type 0) → ((x : X) (n : N) → C x n → D x n) → (xs : List X) (ns : List N) → AllZip C xs ns → AllZip D xs ns
  zip_weaker D each [] [] zip = tt
  zip_weaker D each [] (n ∷ ns) zip = zip
  zip_weaker D each (x ∷ xs) [] zip = zip
  zip_weaker D each (x ∷ xs) (n ∷ ns) zip = (each x n zip.0, zip_weaker D each xs ns zip.1)

-- what is kept of a list
module _ {X : Type 0} (q : X → Bool) where
  kept_one : (b : Bool) (z : X) (xs ks : List X) (x : X) → q z ≡ b → q x ≡ true → (Contains xs x → Contains ks x) → (x ≡ z) ⊎ Contains xs x → Contains (cond b (z ∷ ks) ks) x
  kept_one true z xs ks x e is go (inl same) = subst (λ (y : X). Contains (z ∷ ks) y) (sym same) (Contains-first z ks)
  kept_one true z xs ks x e is go (inr later) = Contains-later z ks x (go later)
  kept_one false z xs ks x e is go (inl same) = absurd (true≢false (sym is ∙ ap q same ∙ e))
  kept_one false z xs ks x e is go (inr later) = go later

  pub kept_there : (xs : List X) (x : X) → Contains xs x → q x ≡ true → Contains (filter q xs) x
  kept_there [] x there is = absurd (Contains-none x there)
  kept_there (z ∷ xs) x there is = kept_one (q z) z xs (filter q xs) x refl is (λ later. kept_there xs x later is) (Contains-cases z xs x there)

  from_one_kept : (b : Bool) (z : X) (xs ks : List X) (x : X) → q z ≡ b → (Contains ks x → Contains xs x × (q x ≡ true)) → Contains (cond b (z ∷ ks) ks) x → Contains (z ∷ xs) x × (q x ≡ true)
  from_one_kept true z xs ks x e go within = by (Contains-cases z ks x within)
    where
      by : (x ≡ z) ⊎ Contains ks x → Contains (z ∷ xs) x × (q x ≡ true)
      by (inl same) = (subst (λ (y : X). Contains (z ∷ xs) y) (sym same) (Contains-first z xs), ap q same ∙ e)
      by (inr rest) = let h = go rest in (Contains-later z xs x h.0, h.1)
  from_one_kept false z xs ks x e go within = let h = go within in (Contains-later z xs x h.0, h.1)

  pub from_kept : (xs : List X) (x : X) → Contains (filter q xs) x → Contains xs x × (q x ≡ true)
  from_kept [] x there = absurd (Contains-none x there)
  from_kept (z ∷ xs) x there = from_one_kept (q z) z xs (filter q xs) x refl (λ later. from_kept xs x later) there

-- what each element of a list gives, one behind the other
module _ {X Y : Type 0} (f : X → List Y) where
  pub record GivenBy (xs : List X) (y : Y) : Type 0 where
    pub one : X
    pub within : Contains xs one
    pub gives : Contains (f one) y

  pub given_by : (xs : List X) (y : Y) → Contains (flat_map f xs) y → GivenBy xs y
  given_by [] y there = absurd (Contains-none y there)
  given_by (x ∷ xs) y there = by (λ later. given_by xs y later) (Contains-append_cases (f x) (flat_map f xs) y there)
    where
      by : (Contains (flat_map f xs) y → GivenBy xs y) → Contains (f x) y ⊎ Contains (flat_map f xs) y → GivenBy (x ∷ xs) y
      by go (inl here) = record { one = x; within = Contains-first x xs; gives = here }
      by go (inr later) = let g = go later in record { one = g.one; within = Contains-later x xs g.one g.within; gives = g.gives }

  pub gives_there : (xs : List X) (x : X) (y : Y) → Contains xs x → Contains (f x) y → Contains (flat_map f xs) y
  gives_there [] x y there is = absurd (Contains-none x there)
  gives_there (z ∷ xs) x y there is = by (λ later. gives_there xs x y later is) (Contains-cases z xs x there)
    where
      by : (Contains xs x → Contains (flat_map f xs) y) → (x ≡ z) ⊎ Contains xs x → Contains (f z ++ flat_map f xs) y
      by go (inl same) = Contains-append_left (f z) (flat_map f xs) y (subst (λ (w : X). Contains (f w) y) same is)
      by go (inr later) = Contains-append_right (f z) (flat_map f xs) y (go later)
