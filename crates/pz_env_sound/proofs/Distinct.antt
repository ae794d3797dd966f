-- Lists of which no two elements are equal, and the first elements of a list with their key.
use Rattle.std.proofs.Common.{◌≡◌, ◌≢◌, refl, sym, ap, subst, ◌∙◌, ℕ, zero, suc, ◌≤◌, Bool, true, false, not, List, [], ◌∷◌, ◌++◌, map, length, Some, IsTrue, if◌then◌else◌, slice_get, arith, ◌⊎◌, inl, inr, ⊎_elim}
use Rattle.std.specs.List.{Contains, AllByRecursion, filter}
use Rattle.std.proofs.lemmas.Bool.{both_ways}
use Rattle.pz_env_tree.specs.pz_syntax.declared.tokens.Pos.{Pos}
use Rattle.pz_env_tree.specs.pz_classes_rules.RepeatRules.{Repeats}
use Rattle.pz_env_grown.proofs.Elements.{none_in, first_in, later_in, in_cases}
use Rattle.pz_env_grown.proofs.Numbers.{none_some, some_same}

-- each passes what all pass
pub all_of_each : {A : Type 0} (P : A → Type 0) (xs : List A) → ((x : A) → Contains xs x → P x) → AllByRecursion P xs
all_of_each P [] each = tt
all_of_each P (x ∷ xs) each = (each x (first_in x xs), all_of_each P xs (λ y has. each y (later_in x xs y has)))

pub each_of_all : {A : Type 0} (P : A → Type 0) (xs : List A) → AllByRecursion P xs → (x : A) → Contains xs x → P x
each_of_all P [] all x has = absurd (none_in x has)
each_of_all P (y ∷ ys) all x has = by (in_cases y ys x has) (each_of_all P ys all.1 x)
  where
    by : (y ≡ x) ⊎ Contains ys x → (Contains ys x → P x) → P x
    by (inl same) rest = subst P same all.0
    by (inr later) rest = rest later

pub all_both : {A : Type 0} (P : A → Type 0) (xs ys : List A) → AllByRecursion P xs → AllByRecursion P ys → AllByRecursion P (xs ++ ys)
all_both P [] ys front back = back
all_both P (x ∷ xs) ys front back = (front.0, all_both P xs ys front.1 back)

all_at : {A : Type 0} (P : A → Type 0) (xs : List A) (i : ℕ) (x : A) → AllByRecursion P xs → slice_get xs i ≡ Some x → P x
all_at P [] i x all at = absurd (none_some x at)
all_at P (y ∷ ys) zero x all at = subst P (some_same y x at) all.0
all_at P (y ∷ ys) (suc i) x all at = all_at P ys i x all.1 at

abbrev pub AreDistinct : {K : Type 0} → List K → Type 0
AreDistinct [] = Unit {0}
AreDistinct (k ∷ ks) = AllByRecursion (λ l. k ≢ l) ks × AreDistinct ks

module _ {A K : Type 0} (key : A → K) where
  -- no later one has the key
  abbrev pub NotLater : A → List A → Type 0
  NotLater x ys = AllByRecursion (λ (y : A). key x ≢ key y) ys

  -- two elements of one key stand at one place
  abbrev pub AreApart : List A → Type 0
  AreApart [] = Unit {0}
  AreApart (x ∷ xs) = NotLater x xs × AreApart xs

  pub one_place : (xs : List A) (i j : ℕ) (x y : A) → AreApart xs → slice_get xs i ≡ Some x → slice_get xs j ≡ Some y → i ≢ j
      → key x ≡ key y → ⊥
  one_place [] i j x y distinct at there differ same = none_some x at
  one_place (z ∷ zs) zero zero x y distinct at there differ same = differ refl
  one_place (z ∷ zs) zero (suc j) x y distinct at there differ same =
      all_at (λ w. key z ≢ key w) zs j y distinct.0 there (ap key (some_same z x at) ∙ same)
  one_place (z ∷ zs) (suc i) zero x y distinct at there differ same =
      all_at (λ w. key z ≢ key w) zs i x distinct.0 at (ap key (some_same z y there) ∙ sym same)
  one_place (z ∷ zs) (suc i) (suc j) x y distinct at there differ same =
      one_place zs i j x y distinct.1 at there (λ e. differ (ap (λ (n : ℕ). suc n) e)) same

  pub no_repeat : (like : A → A → Bool) (place : A → Pos) → ((x y : A) → IsTrue (like x y) → key x ≡ key y) → (xs : List A) (y : A)
      → AreApart xs → Repeats like place xs y → ⊥
  no_repeat like place same_key xs y distinct r =
      one_place xs r.first_at r.again_at r.first y distinct r.first_there r.again_there r.apart (same_key r.first y r.alike)

  kept_later : (p : A → Bool) (x : A) (ys : List A) → NotLater x ys → NotLater x (filter p ys)
  kept_later p x [] all = tt
  kept_later p x (y ∷ ys) all = by (p y) (kept_later p x ys all.1)
    where
      by : (b : Bool) → NotLater x (filter p ys) → NotLater x (if b then y ∷ filter p ys else filter p ys)
      by true rest = (all.0, rest)
      by false rest = rest

  pub kept_apart : (p : A → Bool) (xs : List A) → AreApart xs → AreApart (filter p xs)
  kept_apart p [] all = tt
  kept_apart p (x ∷ xs) all = by (p x) (kept_apart p xs all.1)
    where
      by : (b : Bool) → AreApart (filter p xs) → AreApart (if b then x ∷ filter p xs else filter p xs)
      by true rest = (kept_later p x xs all.0, rest)
      by false rest = rest

  module _ (same : A → A → Bool) (tells : (x y : A) → same x y ≡ true → key x ≡ key y)
      (told : (x y : A) → key x ≡ key y → same x y ≡ true) where
    abbrev pub firsts : List A → List A
    firsts [] = []
    firsts (x ∷ xs) = x ∷ filter (λ y. not (same x y)) (firsts xs)

    left_out : (x : A) (ys : List A) → NotLater x (filter (λ y. not (same x y)) ys)
    left_out x [] = tt
    left_out x (y ∷ ys) = by (same x y) refl (left_out x ys)
      where
        by : (b : Bool) → same x y ≡ b → NotLater x (filter (λ z. not (same x z)) ys)
            → NotLater x (if not b then y ∷ filter (λ z. not (same x z)) ys else filter (λ z. not (same x z)) ys)
        by true is rest = rest
        by false is rest = (λ e. both_ways (same x y) is (told x y e), rest)

    pub firsts_apart : (xs : List A) → AreApart (firsts xs)
    firsts_apart [] = tt
    firsts_apart (x ∷ xs) = (left_out x (firsts xs), kept_apart (λ y. not (same x y)) (firsts xs) (firsts_apart xs))

    -- one among the first has the key
    pub record HasFirst (xs : List A) (x : A) : Type 0 where
      pub first : A
      pub there : Contains (firsts xs) first
      pub alike : key first ≡ key x

    in_kept : (p : A → Bool) (ys : List A) (y : A) → p y ≡ true → Contains ys y → Contains (filter p ys) y
    in_kept p [] y passes has = absurd (none_in y has)
    in_kept p (z ∷ zs) y passes has = by (in_cases z zs y has) (in_kept p zs y passes)
      where
        by_test : (b : Bool) → Contains (filter p zs) y → Contains (if b then z ∷ filter p zs else filter p zs) y
        by_test true rest = later_in z (filter p zs) y rest
        by_test false rest = rest

        this : (b : Bool) → p z ≡ b → z ≡ y → Contains (if b then z ∷ filter p zs else filter p zs) y
        this true is same_one = subst (λ (w : A). Contains (w ∷ filter p zs) y) (sym same_one) (first_in y (filter p zs))
        this false is same_one = absurd (both_ways (p z) is (ap p same_one ∙ passes))

        by : (z ≡ y) ⊎ Contains zs y → (Contains zs y → Contains (filter p zs) y) → Contains (filter p (z ∷ zs)) y
        by (inl same_one) rest = this (p z) refl same_one
        by (inr later) rest = by_test (p z) (rest later)

    pub has_first : (xs : List A) (x : A) → Contains xs x → HasFirst xs x
    has_first [] x has = absurd (none_in x has)
    has_first (z ∷ zs) x has = by (in_cases z zs x has) (has_first zs x)
      where
        by_test : (h : HasFirst zs x) (b : Bool) → same z h.first ≡ b → HasFirst (z ∷ zs) x
        by_test h true is = record { first = z; there = first_in z (filter (λ y. not (same z y)) (firsts zs)); alike = tells z h.first is ∙ h.alike }
        by_test h false is = record {
          first = h.first;
          there = later_in z (filter (λ y. not (same z y)) (firsts zs)) h.first (in_kept (λ y. not (same z y)) (firsts zs) h.first (ap not is) h.there);
          alike = h.alike;
        }

        by : (z ≡ x) ⊎ Contains zs x → (Contains zs x → HasFirst zs x) → HasFirst (z ∷ zs) x
        by (inl same_one) rest = record { first = z; there = first_in z (filter (λ y. not (same z y)) (firsts zs)); alike = ap key same_one }
        by (inr later) rest = let h = rest later in by_test h (same z h.first) refl

    few_kept : (p : A → Bool) (ys : List A) → length (filter p ys) ≤ length ys
    few_kept p [] = omega arith
    few_kept p (y ∷ ys) = by (p y) (few_kept p ys)
      where
        by : (b : Bool) → length (filter p ys) ≤ length ys → length (if b then y ∷ filter p ys else filter p ys) ≤ suc (length ys)
        by true rest = omega (arith, rest)
        by false rest = omega (arith, rest)

    pub few_firsts : (xs : List A) → length (firsts xs) ≤ length xs
    few_firsts [] = omega arith
    few_firsts (x ∷ xs) = let rest = few_firsts xs in let kept = few_kept (λ y. not (same x y)) (firsts xs) in omega (arith, rest, kept)

    in_all : (p : A → Bool) (ys : List A) (y : A) → Contains (filter p ys) y → Contains ys y
    in_all p [] y has = has
    in_all p (z ∷ zs) y has = by (p z) has (in_all p zs y)
      where
        by : (b : Bool) → Contains (if b then z ∷ filter p zs else filter p zs) y → (Contains (filter p zs) y → Contains zs y)
            → Contains (z ∷ zs) y
        by true at rest =
            ⊎_elim (λ is. subst (λ (w : A). Contains (z ∷ zs) w) is (first_in z zs)) (λ later. later_in z zs y (rest later)) (in_cases z (filter p zs) y at)
        by false at rest = later_in z zs y (rest at)

    pub from_all : (xs : List A) (x : A) → Contains (firsts xs) x → Contains xs x
    from_all [] x has = has
    from_all (z ∷ zs) x has =
        ⊎_elim (λ is. subst (λ (w : A). Contains (z ∷ zs) w) is (first_in z zs)) (λ later. later_in z zs x (from_all zs x (in_all (λ y. not (same z y)) (firsts zs) x later)))
        (in_cases z (filter (λ y. not (same z y)) (firsts zs)) x has)

-- Elements that differ in their key where others do
pub apart_by : {A B K L : Type 0} (key : A → K) (other : B → L) (g : A → B) (xs : List A)
    → ((x y : A) → Contains xs x → Contains xs y → other (g x) ≡ other (g y) → key x ≡ key y) → AreApart key xs → AreApart other (map g xs)
apart_by key other g [] tells all = tt
apart_by {A} {B} key other g (x ∷ xs) tells all =
    (later xs (λ y has. has) all.0, apart_by key other g xs (λ y z has at. tells y z (later_in x xs y has) (later_in x xs z at)) all.1)
  where
    later : (ys : List A) → ((y : A) → Contains ys y → Contains xs y) → NotLater key x ys → NotLater other (g x) (map g ys)
    later [] within rest = tt
    later (y ∷ ys) within rest =
        (λ e. rest.0 (tells x y (first_in x xs) (later_in x xs y (within y (first_in y ys))) e), later ys (λ z has. within z (later_in y ys z has)) rest.1)
