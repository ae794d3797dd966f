-- Lists in order, and what they contain.
use Rattle.std.proofs.Common.{◌≡◌, ◌≤◌, ◌⊎◌, inl, inr, zero, suc, List, [], ◌∷◌, ◌++◌, map, length, Option, Some, None, refl, sym, subst, ap, ◌∙◌, arith}
use Rattle.std.specs.List.{All, AllPairs, Contains, filter_map, cons_option}
use Rattle.std.proofs.lemmas.List.Elements.{All-nil, All-cons, All-map, All-append, All-contains}
use Rattle.std.proofs.lemmas.List.Kept.{AllPairs-cons}

pub Contains-map : {X Y : Type 0} (f : X → Y) (xs : List X) (x : X) → Contains xs x → Contains (map f xs) (f x)
Contains-map f [] x (k, within, is) = absurd (omega arith)
Contains-map f (y ∷ ys) x (zero, within, is) = (0, omega arith, ap f is)
Contains-map f (y ∷ ys) x (suc k, within, is) = let r = Contains-map f ys x (k, omega arith, is) in (suc r.0, omega arith, r.2)

-- the first, or one of the others
pub Contains-cases : {X : Type 0} (y : X) (ys : List X) (x : X) → Contains (y ∷ ys) x → (x ≡ y) ⊎ Contains ys x
Contains-cases y ys x (zero, within, is) = inl (sym is)
Contains-cases y ys x (suc k, within, is) = inr (k, omega arith, is)

pub Contains-first : {X : Type 0} (x : X) (xs : List X) → Contains (x ∷ xs) x
Contains-first x xs = (0, omega arith, refl)

pub Contains-later : {X : Type 0} (y : X) (xs : List X) (x : X) → Contains xs x → Contains (y ∷ xs) x
Contains-later y xs x (k, within, is) = (suc k, omega arith, is)

pub AllPairs-nil : {X : Type 0} (R : X → X → Type 0) → AllPairs R []
AllPairs-nil R i j d before within = absurd (omega arith)

pub AllPairs-head : {X : Type 0} (R : X → X → Type 0) (x : X) (xs : List X) → AllPairs R (x ∷ xs) → All (R x) xs
AllPairs-head R x xs pairs k d within = pairs 0 (suc k) d (omega arith) (omega arith)

pub AllPairs-tail : {X : Type 0} (R : X → X → Type 0) (x : X) (xs : List X) → AllPairs R (x ∷ xs) → AllPairs R xs
AllPairs-tail R x xs pairs i j d before within = pairs (suc i) (suc j) d (omega arith) (omega arith)

-- a list of at most one
pub AllPairs-short : {X : Type 0} (R : X → X → Type 0) (xs : List X) → length xs ≤ 1 → AllPairs R xs
AllPairs-short R xs short i j d before within = absurd (omega arith)

pub AllPairs-map : {X Y : Type 0} (R : Y → Y → Type 0) (f : X → Y) (xs : List X) → AllPairs (λ a b. R (f a) (f b)) xs → AllPairs R (map f xs)
AllPairs-map R f [] pairs = AllPairs-nil R
AllPairs-map {X} R f (x ∷ xs) pairs =
    let S : X → X → Type 0 = λ a b. R (f a) (f b) in
    AllPairs-cons R (f x) (map f xs) (All-map (R (f x)) f xs (AllPairs-head S x xs pairs)) (AllPairs-map R f xs (AllPairs-tail S x xs pairs))

pub AllPairs-append : {X : Type 0} (R : X → X → Type 0) (xs ys : List X) → AllPairs R xs → AllPairs R ys → All (λ x. All (R x) ys) xs → AllPairs R (xs ++ ys)
AllPairs-append R [] ys first second across = second
AllPairs-append {X} R (x ∷ xs) ys first second across =
    AllPairs-cons R x (xs ++ ys) (All-append (R x) xs ys (AllPairs-head R x xs first) (across 0 x (omega arith)))
    (AllPairs-append R xs ys (AllPairs-tail R x xs first) second (λ k d within. across (suc k) d (omega arith)))

-- two strictly increasing lists with the same elements are one
module _ {X : Type 0} (R : X → X → Type 0) (irreflexive : (a : X) → R a a → ⊥) (transitive : (a b c : X) → R a b → R b c → R a c) where
  heads : (x : X) (xs : List X) (y : X) (ys : List X) → AllPairs R (x ∷ xs) → AllPairs R (y ∷ ys) → Contains (y ∷ ys) x → Contains (x ∷ xs) y → x ≡ y
  heads x xs y ys first second here there = by_cases (Contains-cases y ys x here) (Contains-cases x xs y there)
    where
      by_cases : (x ≡ y) ⊎ Contains ys x → (y ≡ x) ⊎ Contains xs y → x ≡ y
      by_cases (inl is) other = is
      by_cases (inr later) (inl is) = sym is
      by_cases (inr later) (inr after) = absurd (irreflexive x (transitive x y x (All-contains (R x) xs y (AllPairs-head R x xs first) after) (All-contains (R y) ys x (AllPairs-head R y ys second) later)))

  tails : (x : X) (xs : List X) (y : X) (ys : List X) → x ≡ y → AllPairs R (x ∷ xs) → ((a : X) → Contains (x ∷ xs) a → Contains (y ∷ ys) a) → (a : X) → Contains xs a → Contains ys a
  tails x xs y ys same first within a here = by_cases (Contains-cases y ys a (within a (Contains-later x xs a here)))
    where
      by_cases : (a ≡ y) ⊎ Contains ys a → Contains ys a
      by_cases (inr later) = later
      by_cases (inl is) =
          let before : R x a = All-contains (R x) xs a (AllPairs-head R x xs first) here in
          let again : R x x = subst (λ (b : X). R x b) (a_is is) before in
          absurd (irreflexive x again)
        where
          a_is : a ≡ y → a ≡ x
          a_is e = cc

  pub one_increasing : (xs ys : List X) → AllPairs R xs → AllPairs R ys → ((a : X) → Contains xs a → Contains ys a) → ((a : X) → Contains ys a → Contains xs a) → xs ≡ ys
  one_increasing [] [] first second there back = refl
  one_increasing [] (y ∷ ys) first second there back = absurd (omega (arith, (back y (Contains-first y ys)).1))
  one_increasing (x ∷ xs) [] first second there back = absurd (omega (arith, (there x (Contains-first x xs)).1))
  one_increasing (x ∷ xs) (y ∷ ys) first second there back =
      let same : x ≡ y = heads x xs y ys first second (there x (Contains-first x xs)) (back y (Contains-first y ys)) in
      let rest : xs ≡ ys = one_increasing xs ys (AllPairs-tail R x xs first) (AllPairs-tail R y ys second) (tails x xs y ys same first there) (tails y ys x xs (sym same) second back) in
      rw (same, rest) refl

-- what is kept of a list, and seen in another way
module _ {X Y : Type 0} (h : X → Option Y) where
  kept_first : (x : X) (y : Y) (ys : List Y) → h x ≡ Some y → Contains (cons_option (h x) ys) y
  kept_first x y ys is = rw is (Contains-first y ys)

  kept_later : (o : Option Y) (y : Y) (ys : List Y) → Contains ys y → Contains (cons_option o ys) y
  kept_later None y ys within = within
  kept_later (Some z) y ys within = Contains-later z ys y within

  pub Contains-filter_map : (xs : List X) (x : X) (y : Y) → Contains xs x → h x ≡ Some y → Contains (filter_map h xs) y
  Contains-filter_map [] x y (k, within, is) e = absurd (omega (arith, within))
  Contains-filter_map (z ∷ zs) x y within e = by (Contains-cases z zs x within) (λ later. Contains-filter_map zs x y later e)
    where
      by : (x ≡ z) ⊎ Contains zs x → (Contains zs x → Contains (filter_map h zs) y) → Contains (filter_map h (z ∷ zs)) y
      by (inl same) go = subst (λ (w : X). Contains (cons_option (h w) (filter_map h zs)) y) same (kept_first x y (filter_map h zs) e)
      by (inr later) go = kept_later (h z) y (filter_map h zs) (go later)

  kept_all : (Q : Y → Type 0) (o : Option Y) (ys : List Y) → ((y : Y) → o ≡ Some y → Q y) → All Q ys → All Q (cons_option o ys)
  kept_all Q None ys one all = all
  kept_all Q (Some y) ys one all = All-cons Q y ys (one y refl) all

  pub All-filter_map : (P : X → Type 0) (Q : Y → Type 0) (xs : List X) → ((x : X) (y : Y) → P x → h x ≡ Some y → Q y) → All P xs → All Q (filter_map h xs)
  All-filter_map P Q [] each all = All-nil Q
  All-filter_map P Q (x ∷ xs) each all =
      kept_all Q (h x) (filter_map h xs) (λ y is. each x y (all 0 x (omega arith)) is)
      (All-filter_map P Q xs each (λ k d within. all (suc k) d (omega (arith, within))))

  kept_pairs : (S : Y → Y → Type 0) (o : Option Y) (ys : List Y) → ((y : Y) → o ≡ Some y → All (S y) ys) → AllPairs S ys → AllPairs S (cons_option o ys)
  kept_pairs S None ys one pairs = pairs
  kept_pairs S (Some y) ys one pairs = AllPairs-cons S y ys (one y refl) pairs

  pub AllPairs-filter_map : (R : X → X → Type 0) (S : Y → Y → Type 0) (xs : List X)
      → ((x z : X) (y w : Y) → h x ≡ Some y → h z ≡ Some w → R x z → S y w) → AllPairs R xs → AllPairs S (filter_map h xs)
  AllPairs-filter_map R S [] each pairs = AllPairs-nil S
  AllPairs-filter_map R S (x ∷ xs) each pairs =
      kept_pairs S (h x) (filter_map h xs)
      (λ y is. All-filter_map (R x) (S y) xs (λ z w before is_w. each x z y w is is_w before) (AllPairs-head R x xs pairs))
      (AllPairs-filter_map R S xs each (AllPairs-tail R x xs pairs))

-- what is kept comes from an element
module _ {X Y : Type 0} (h : X → Option Y) where
  pub record KeptFrom (xs : List X) (y : Y) : Type 0 where
    pub from : X
    pub within : Contains xs from
    pub is : h from ≡ Some y

  from_later : (x : X) (xs : List X) (y : Y) → KeptFrom xs y → KeptFrom (x ∷ xs) y
  from_later x xs y k = record { from = k.from; within = Contains-later x xs k.from k.within; is = k.is }

  from_either : (x : X) (xs : List X) (y z : Y) (ys : List Y) → h x ≡ Some z → (Contains ys y → KeptFrom xs y) → (y ≡ z) ⊎ Contains ys y → KeptFrom (x ∷ xs) y
  from_either x xs y z ys e later (inl same) = record { from = x; within = Contains-first x xs; is = e ∙ ap (λ w. Some w) (sym same) }
  from_either x xs y z ys e later (inr inside) = from_later x xs y (later inside)

  from_cons : (x : X) (xs : List X) (y : Y) (o : Option Y) (ys : List Y) → h x ≡ o → (Contains ys y → KeptFrom xs y) → Contains (cons_option o ys) y → KeptFrom (x ∷ xs) y
  from_cons x xs y None ys e later inner = from_later x xs y (later inner)
  from_cons x xs y (Some z) ys e later inner = from_either x xs y z ys e later (Contains-cases z ys y inner)

  pub kept_from : (xs : List X) (y : Y) → Contains (filter_map h xs) y → KeptFrom xs y
  kept_from [] y (k, within, is) = absurd (omega (arith, within))
  kept_from (x ∷ xs) y within = from_cons x xs y (h x) (filter_map h xs) refl (λ later. kept_from xs y later) within
