-- Lists joined end to end, and their sums.
use Rattle.std.proofs.Common.{◌≡◌, ◌≤◌, ◌<◌, ◌+◌, ◌⊎◌, inl, inr, refl, sym, ◌∙◌, ap, subst, ℕ, zero, suc, Bool, true, false, nat_eq, List, [], ◌∷◌, ◌++◌, length, take, get_or, Option, Some, None, if◌then◌else◌, arith}
use Rattle.std.specs.Prelude.{All, sum_by, filter, map}
use Rattle.std.specs.List.{slice_get, flat_map}
use Rattle.std.proofs.lemmas.Bool.{eqb-true, eqb-false, ne_eqb}
use Rattle.std.proofs.lemmas.List.{length-append, take-append-le, take_all}
use Rattle.std.proofs.lemmas.List.Elements.{All-head, All-tail, filter-append}
use Rattle.std.proofs.lemmas.List.Concat.{length-flat_map}
use Rattle.std.proofs.lemmas.List.Sums.{sum_by-cons, sum_by-append, sum_by_push, sum_by_more}
use Rattle.std.specs.Option.{option_map_or}
use Rattle.std.proofs.lemmas.Option.{none-some, slice_get-get_or, get_or_from_slice_get}
use Rattle.pz_match.specs.devices.Lists.{upto}

module _ {Y : Type 0} where
  pub get_left : (xs ys : List Y) (k : ℕ) → k < length xs → slice_get (xs ++ ys) k ≡ slice_get xs k
  get_left [] ys k h = absurd (omega (arith, h))
  get_left (x ∷ xs) ys zero h = refl
  get_left (x ∷ xs) ys (suc k) h = get_left xs ys k (omega (arith, h))

  pub get_right : (xs ys : List Y) (k : ℕ) → slice_get (xs ++ ys) (length xs + k) ≡ slice_get ys k
  get_right [] ys k = ap (slice_get ys) (omega arith)
  get_right (x ∷ xs) ys k = let e : length (x ∷ xs) + k ≡ suc (length xs + k) = omega arith in ap (slice_get (x ∷ (xs ++ ys))) e ∙ get_right xs ys k

module _ {X Y : Type 0} (f : X → List Y) where
  abbrev pub sizes : List X → ℕ
  sizes xs = sum_by (λ x. length (f x)) xs

  -- the k-th of all, where it stands in the i-th part
  pub at_flat : (xs : List X) (i r k : ℕ) (x : X) → slice_get xs i ≡ Some x → sizes (take i xs) + r ≡ k → r < length (f x) → slice_get (flat_map f xs) k ≡ slice_get (f x) r
  at_flat [] i r k x is e h = cc
  at_flat (y ∷ ys) zero r k x is e h =
      let one : y ≡ x = cc in
      let same : r ≡ k = omega (arith, e) in
      ap (slice_get (f y ++ flat_map f ys)) (sym same) ∙ (get_left (f y) (flat_map f ys) r (subst (λ (z : X). r < length (f z)) (sym one) h) ∙ ap (λ (z : X). slice_get (f z) r) one)
  at_flat (y ∷ ys) (suc i) r k x is e h =
      let split : length (f y) + (sizes (take i ys) + r) ≡ k = omega (arith, e, sum_by-cons (λ z. length (f z)) y (take i ys)) in
      ap (slice_get (f y ++ flat_map f ys)) (sym split) ∙ (get_right (f y) (flat_map f ys) (sizes (take i ys) + r) ∙ at_flat ys i r (sizes (take i ys) + r) x is refl h)

  pub past_flat : (xs : List X) (k : ℕ) → sizes xs ≤ k → slice_get (flat_map f xs) k ≡ None
  past_flat xs k h = past (flat_map f xs) k (omega (arith, length-flat_map f xs, h))
    where
      past : (zs : List Y) (n : ℕ) → length zs ≤ n → slice_get zs n ≡ None
      past [] n h = refl
      past (z ∷ zs) zero h = absurd (omega (arith, h))
      past (z ∷ zs) (suc n) h = past zs n (omega (arith, h))

  pub filter_flat : (p : Y → Bool) (xs : List X) → filter p (flat_map f xs) ≡ flat_map (λ x. filter p (f x)) xs
  filter_flat p [] = refl
  filter_flat p (x ∷ xs) = filter-append p (f x) (flat_map f xs) ∙ ap (λ ys. filter p (f x) ++ ys) (filter_flat p xs)

  pub flat_same : (g : X → List Y) (xs : List X) → All (λ x. f x ≡ g x) xs → flat_map f xs ≡ flat_map g xs
  flat_same g [] all = refl
  flat_same g (x ∷ xs) all = λ i. All-head (λ x. f x ≡ g x) x xs all i ++ flat_same g xs (All-tail (λ x. f x ≡ g x) x xs all) i

  pub flat_mapped : {Z : Type 0} (h : Z → X) (zs : List Z) → flat_map f (map h zs) ≡ flat_map (λ z. f (h z)) zs
  flat_mapped h [] = refl
  flat_mapped h (z ∷ zs) = ap (λ ys. f (h z) ++ ys) (flat_mapped h zs)

module _ {X : Type 0} (f g : X → ℕ) where
  pub sum_same : (xs : List X) → All (λ x. f x ≡ g x) xs → sum_by f xs ≡ sum_by g xs
  sum_same [] all = refl
  sum_same (x ∷ xs) all =
      let here : f x ≡ g x = All-head (λ x. f x ≡ g x) x xs all in
      omega (arith, sum_by-cons f x xs, sum_by-cons g x xs, sum_same xs (All-tail (λ x. f x ≡ g x) x xs all))

  pub sum_both : (xs : List X) → sum_by (λ x. f x + g x) xs ≡ sum_by f xs + sum_by g xs
  sum_both [] = refl
  sum_both (x ∷ xs) = omega (arith, sum_by-cons f x xs, sum_by-cons g x xs, sum_by-cons (λ x. f x + g x) x xs, sum_both xs)

-- what is summed by its key

module _ {Y : Type 0} (key : Y → ℕ) (h : Y → ℕ) where
  abbrev pub with_key : ℕ → Y → ℕ
  with_key i y = if nat_eq (key y) i then h y else 0

  one_key : (n : ℕ) (y : Y) → n ≤ key y → sum_by (λ i. with_key i y) (upto n) ≡ 0
  one_key zero y le = refl
  one_key (suc n) y le =
      let none : nat_eq (key y) n ≡ false = ne_eqb (key y) n (λ e. omega (arith, e, le)) in
      let this : with_key n y ≡ 0 = ap (λ b. if b then h y else 0) none in
      omega (arith, sum_by_push (λ i. with_key i y) (upto n) n, one_key n y (omega (arith, le)))

  its_key : (n : ℕ) (y : Y) → key y < n → sum_by (λ i. with_key i y) (upto n) ≡ h y
  its_key zero y lt = absurd (omega (arith, lt))
  its_key (suc n) y lt = by (nat_eq (key y) n) refl (its_key n y)
    where
      by : (b : Bool) → nat_eq (key y) n ≡ b → (key y < n → sum_by (λ i. with_key i y) (upto n) ≡ h y) → sum_by (λ i. with_key i y) (upto (suc n)) ≡ h y
      by true is later =
          let this : with_key n y ≡ h y = ap (λ b. if b then h y else 0) is in
          let same : key y ≡ n = eqb-true (key y) n is in
          omega (arith, sum_by_push (λ i. with_key i y) (upto n) n, one_key n y (omega (arith, same)))
      by false is later =
          let this : with_key n y ≡ 0 = ap (λ b. if b then h y else 0) is in
          let other : (key y ≡ n) → ⊥ = eqb-false (key y) n is in
          let below : key y < n = strictly (key y) n lt other in
          omega (arith, sum_by_push (λ i. with_key i y) (upto n) n, later below)
        where
          strictly : (a b : ℕ) → a < suc b → ((a ≡ b) → ⊥) → a < b
          strictly a b h ne = grind arith

  sum_zero : (n : ℕ) → sum_by (λ i. sum_by (with_key i) []) (upto n) ≡ 0
  sum_zero zero = refl
  sum_zero (suc n) = omega (arith, sum_by_push (λ i. sum_by (with_key i) []) (upto n) n, sum_zero n)

  pub regroup : (n : ℕ) (ys : List Y) → All (λ y. key y < n) ys → sum_by (λ i. sum_by (with_key i) ys) (upto n) ≡ sum_by h ys
  regroup n [] all = sum_zero n
  regroup n (y ∷ ys) all =
      let split : sum_by (λ i. sum_by (with_key i) (y ∷ ys)) (upto n) ≡ sum_by (λ i. with_key i y + sum_by (with_key i) ys) (upto n) = sum_same _ _ (upto n) (λ k d lt. sum_by-cons (with_key (get_or (upto n) k d)) y ys) in
      split
      ∙ (sum_both (λ i. with_key i y) (λ i. sum_by (with_key i) ys) (upto n)
      ∙ (let first : sum_by (λ i. with_key i y) (upto n) ≡ h y = its_key n y (All-head (λ y. key y < n) y ys all) in
      let others : sum_by (λ i. sum_by (with_key i) ys) (upto n) ≡ sum_by h ys = regroup n ys (All-tail (λ y. key y < n) y ys all) in
      omega (arith, sum_by-cons h y ys)))

module _ {X Y : Type 0} where
  pub sum_mapped : (g : Y → ℕ) (f : X → Y) (xs : List X) → sum_by g (map f xs) ≡ sum_by (λ x. g (f x)) xs
  sum_mapped g f [] = refl
  sum_mapped g f (x ∷ xs) = omega (arith, sum_by-cons g (f x) (map f xs), sum_by-cons (λ x. g (f x)) x xs, sum_mapped g f xs)

  pub sum_flat : (g : Y → ℕ) (f : X → List Y) (xs : List X) → sum_by g (flat_map f xs) ≡ sum_by (λ x. sum_by g (f x)) xs
  sum_flat g f [] = refl
  sum_flat g f (x ∷ xs) = omega (arith, sum_by-append g (f x) (flat_map f xs), sum_by-cons (λ x. sum_by g (f x)) x xs, sum_flat g f xs)

-- the numbers below one

pub length_upto : (n : ℕ) → length (upto n) ≡ n
length_upto zero = refl
length_upto (suc n) = omega (arith, length-append (upto n) (n ∷ []), length_upto n)

pub get_upto : (n i : ℕ) → i < n → slice_get (upto n) i ≡ Some i
get_upto zero i lt = absurd (omega (arith, lt))
get_upto (suc n) i lt = by (split i n lt) (get_upto n i)
  where
    split : (i n : ℕ) → i < suc n → (i < n) ⊎ (n ≡ i)
    split i n lt = grind arith

    by : (i < n) ⊎ (n ≡ i) → (i < n → slice_get (upto n) i ≡ Some i) → slice_get (upto n ++ n ∷ []) i ≡ Some i
    by (inl below) later = get_left (upto n) (n ∷ []) i (omega (arith, below, length_upto n)) ∙ later below
    by (inr here) later =
        let at : length (upto n) + 0 ≡ i = omega (arith, length_upto n, here) in
        ap (slice_get (upto n ++ n ∷ [])) (sym at) ∙ (get_right (upto n) (n ∷ []) 0 ∙ ap (λ m. Some m) here)

pub take_upto : (n i : ℕ) → i ≤ n → take i (upto n) ≡ upto i
take_upto zero i le = let none : i ≡ 0 = omega (arith, le) in ap (λ m. take m []) none ∙ ap upto (sym none)
take_upto (suc n) i le = by (split i n le) (take_upto n i)
  where
    split : (i n : ℕ) → i ≤ suc n → (i ≤ n) ⊎ (i ≡ suc n)
    split i n le = grind arith

    by : (i ≤ n) ⊎ (i ≡ suc n) → (i ≤ n → take i (upto n) ≡ upto i) → take i (upto n ++ n ∷ []) ≡ upto i
    by (inl below) later = take-append-le i (upto n) (n ∷ []) (omega (arith, below, length_upto n)) ∙ later below
    by (inr all) later =
        take_all i (upto n ++ n ∷ []) (omega (arith, length-append (upto n) (n ∷ []), length_upto n, all)) ∙ ap upto (sym all)

-- a list by its places
module _ {X : Type 0} (f : X → ℕ) (xs : List X) where
  abbrev pub at_place : ℕ → ℕ
  at_place i = option_map_or f (slice_get xs i) 0

  pub front : (n : ℕ) → n ≤ length xs → sum_by f (take n xs) ≡ sum_by at_place (upto n)
  front zero le = refl
  front (suc n) le = by (slice_get xs n) refl (front n (omega (arith, le)))
    where
      by : (o : Option X) → slice_get xs n ≡ o → sum_by f (take n xs) ≡ sum_by at_place (upto n) → sum_by f (take (suc n) xs) ≡ sum_by at_place (upto (suc n))
      by None is before = absurd (none-some (get_or xs n (head_of xs le)) (sym is ∙ slice_get-get_or xs n (head_of xs le) le))
        where
          head_of : (ys : List X) → suc n ≤ length ys → X
          head_of [] h = absurd (omega (arith, h))
          head_of (y ∷ ys) h = y
      by (Some x) is before =
          let here : get_or xs n x ≡ x = get_or_from_slice_get xs n x x is in
          let value : at_place n ≡ f x = ap (λ (o : Option X). option_map_or f o 0) is in
          let more : sum_by f (take (n + 1) xs) ≡ sum_by f (take n xs) + f (get_or xs n x) = sum_by_more f xs n x (omega (arith, le)) in
          let one : suc n ≡ n + 1 = omega arith in
          let left : sum_by f (take (suc n) xs) ≡ sum_by f (take n xs) + f x = ap (λ m. sum_by f (take m xs)) one ∙ (more ∙ ap (λ y. sum_by f (take n xs) + f y) here) in
          omega (arith, left, before, value, sum_by_push at_place (upto n) n)

  pub sum_indexed : sum_by f xs ≡ sum_by at_place (upto (length xs))
  sum_indexed = ap (sum_by f) (sym (take_all (length xs) xs (omega arith))) ∙ front (length xs) (omega arith)
