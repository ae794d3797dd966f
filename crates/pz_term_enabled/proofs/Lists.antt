-- Lists in order, and what they contain.
use Rattle.std.proofs.Common.{◌≡◌, ◌<◌, ◌⊎◌, inl, inr, ℕ, zero, suc, List, [], ◌∷◌, ◌++◌, map, length, Option, Some, None, get_or, refl, sym, subst, ap, ◌∙◌, arith}
use Rattle.std.specs.List.{All, AllPairs, Contains, filter_map, cons_option}
use Rattle.std.proofs.lemmas.List.{length-map, get_or-map}
use Rattle.std.proofs.lemmas.List.Elements.{All-nil, All-cons, All-append, Contains-get_or}
use Rattle.std.proofs.lemmas.List.Kept.{AllPairs-cons}

-- the first, or one of the others
pub Contains-cases : {X : Type 0} (y : X) (ys : List X) (x : X) → Contains (y ∷ ys) x → (x ≡ y) ⊎ Contains ys x
Contains-cases y ys x (zero, within, is) = inl (sym is)
Contains-cases y ys x (suc k, within, is) = inr (k, omega arith, is)

pub Contains-first : {X : Type 0} (x : X) (xs : List X) → Contains (x ∷ xs) x
Contains-first x xs = (0, omega arith, refl)

pub Contains-later : {X : Type 0} (y : X) (xs : List X) (x : X) → Contains xs x → Contains (y ∷ xs) x
Contains-later y xs x (k, within, is) = (suc k, omega arith, is)

pub AllPairs-nil : {X : Type 0} (R : X → X → Type 0) → AllPairs R []
AllPairs-nil R i j d before within = absurd (omega arith)

pub AllPairs-head : {X : Type 0} (R : X → X → Type 0) (x : X) (xs : List X) → AllPairs R (x ∷ xs) → All (R x) xs
AllPairs-head R x xs pairs k d within = pairs 0 (suc k) d (omega arith) (omega arith)

AllPairs-tail : {X : Type 0} (R : X → X → Type 0) (x : X) (xs : List X) → AllPairs R (x ∷ xs) → AllPairs R xs
AllPairs-tail R x xs pairs i j d before within = pairs (suc i) (suc j) d (omega arith) (omega arith)

pub AllPairs-append : {X : Type 0} (R : X → X → Type 0) (xs ys : List X) → AllPairs R xs → AllPairs R ys → All (λ x. All (R x) ys) xs → AllPairs R (xs ++ ys)
AllPairs-append R [] ys first second across = second
AllPairs-append {X} R (x ∷ xs) ys first second across =
    AllPairs-cons R x (xs ++ ys) (All-append (R x) xs ys (AllPairs-head R x xs first) (across 0 x (omega arith)))
    (AllPairs-append R xs ys (AllPairs-tail R x xs first) second (λ k d within. across (suc k) d (omega arith)))

-- an element of a list that has so many
pub an_element : {X : Type 0} (xs : List X) (k : ℕ) → k < length xs → X
an_element [] k within = absurd (omega (arith, within))
an_element (x ∷ xs) k within = x

-- what is seen in another way comes from an element
module _ {X Y : Type 0} (f : X → Y) where
  pub Contains-map : (xs : List X) (x : X) → Contains xs x → Contains (map f xs) (f x)
  Contains-map xs x (k, within, is) =
      let inside : k < length (map f xs) = subst (λ (n : ℕ). k < n) (sym (length-map xs f)) within in
      (k, inside, get_or-map f xs k x (f x) within ∙ ap f is)

  pub record MapsTo (xs : List X) (y : Y) : Type 0 where
    pub one : X
    pub within : Contains xs one
    pub is : f one ≡ y

  pub from_map : (xs : List X) (y : Y) → Contains (map f xs) y → MapsTo xs y
  from_map xs y (k, within, is) =
      let inside : k < length xs = subst (λ (n : ℕ). k < n) (length-map xs f) within in
      let d : X = an_element xs k inside in
      record { one = get_or xs k d; within = Contains-get_or xs k d inside; is = sym (get_or-map f xs k d y inside) ∙ is }

  pub map_kept : (xs : List X) → map f xs ≡ filter_map (λ x. Some (f x)) xs
  map_kept [] = refl
  map_kept (x ∷ xs) = ap (λ (l : List Y). f x ∷ l) (map_kept xs)

-- what is kept of a list, and seen in another way
module _ {X Y : Type 0} (h : X → Option Y) where
  kept_first : (x : X) (y : Y) (ys : List Y) → h x ≡ Some y → Contains (cons_option (h x) ys) y
  kept_first x y ys is = rw is (Contains-first y ys)

  kept_later : (o : Option Y) (y : Y) (ys : List Y) → Contains ys y → Contains (cons_option o ys) y
  kept_later None y ys within = within
  kept_later (Some z) y ys within = Contains-later z ys y within

  pub Contains-filter_map : (xs : List X) (x : X) (y : Y) → Contains xs x → h x ≡ Some y → Contains (filter_map h xs) y
  Contains-filter_map [] x y (k, within, is) e = absurd (omega (arith, within))
  Contains-filter_map (z ∷ zs) x y within e = by (Contains-cases z zs x within) (λ later. Contains-filter_map zs x y later e)
    where
      by : (x ≡ z) ⊎ Contains zs x → (Contains zs x → Contains (filter_map h zs) y) → Contains (filter_map h (z ∷ zs)) y
      by (inl same) go = subst (λ (w : X). Contains (cons_option (h w) (filter_map h zs)) y) same (kept_first x y (filter_map h zs) e)
      by (inr later) go = kept_later (h z) y (filter_map h zs) (go later)

  kept_all : (Q : Y → Type 0) (o : Option Y) (ys : List Y) → ((y : Y) → o ≡ Some y → Q y) → All Q ys → All Q (cons_option o ys)
  kept_all Q None ys one all = all
  kept_all Q (Some y) ys one all = All-cons Q y ys (one y refl) all

  pub All-filter_map : (P : X → Type 0) (Q : Y → Type 0) (xs : List X) → ((x : X) (y : Y) → P x → h x ≡ Some y → Q y) → All P xs → All Q (filter_map h xs)
  All-filter_map P Q [] each all = All-nil Q
  All-filter_map P Q (x ∷ xs) each all =
      kept_all Q (h x) (filter_map h xs) (λ y is. each x y (all 0 x (omega arith)) is)
      (All-filter_map P Q xs each (λ k d within. all (suc k) d (omega (arith, within))))

  kept_pairs : (S : Y → Y → Type 0) (o : Option Y) (ys : List Y) → ((y : Y) → o ≡ Some y → All (S y) ys) → AllPairs S ys → AllPairs S (cons_option o ys)
  kept_pairs S None ys one pairs = pairs
  kept_pairs S (Some y) ys one pairs = AllPairs-cons S y ys (one y refl) pairs

  pub AllPairs-filter_map : (R : X → X → Type 0) (S : Y → Y → Type 0) (xs : List X)
      → ((x z : X) (y w : Y) → h x ≡ Some y → h z ≡ Some w → R x z → S y w) → AllPairs R xs → AllPairs S (filter_map h xs)
  AllPairs-filter_map R S [] each pairs = AllPairs-nil S
  AllPairs-filter_map R S (x ∷ xs) each pairs =
      kept_pairs S (h x) (filter_map h xs)
      (λ y is. All-filter_map (R x) (S y) xs (λ z w before is_w. each x z y w is is_w before) (AllPairs-head R x xs pairs))
      (AllPairs-filter_map R S xs each (AllPairs-tail R x xs pairs))
