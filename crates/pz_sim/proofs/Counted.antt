-- What is counted where some of a list are told of anew, and rows of which each has its number.
use Rattle.std.proofs.Common.{◌≡◌, ◌≤◌, ◌+◌, ℕ, suc, Bool, true, false, not, ◌&&◌, ◌||◌, nat_eq, Option, None, cond, List, [], ◌∷◌, length, Some, refl, sym, subst, ap, ◌∙◌, arith}
use Rattle.std.specs.Prelude.{slice_get, filter, All}
use Rattle.std.specs.List.{flat_map, AllZip}
use Rattle.std.specs.Option.{option_map_or}
use Rattle.std.proofs.lemmas.Bool.{eqb-true, eq-eqb}
use Rattle.std.proofs.lemmas.List.Elements.{All-head, All-tail, All-append, All-cons}

module _ {X : Type 0} where
  -- what passes b passes a: those with a and without b, and some with b, are not more than those with a
  module _ (a b c : X → Bool) (within : (x : X) → b x ≡ true → a x ≡ true) where
    one : (x : X) (ys zs ws : List X) (bx cx : Bool) → b x ≡ bx → length (filter a ys) + length zs ≤ length ws
        → length (filter a (cond (not bx) (x ∷ ys) ys)) + length (cond (bx && cx) (x ∷ zs) zs) ≤ length (cond (a x) (x ∷ ws) ws)
    one x ys zs ws true true e less = subst (λ (v : Bool). length (filter a ys) + length (x ∷ zs) ≤ length (cond v (x ∷ ws) ws)) (sym (within x e)) (omega (arith, less))
    one x ys zs ws true false e less = subst (λ (v : Bool). length (filter a ys) + length zs ≤ length (cond v (x ∷ ws) ws)) (sym (within x e)) (omega (arith, less))
    one x ys zs ws false cx e less = by (a x)
      where
        by : (v : Bool) → length (cond v (x ∷ filter a ys) (filter a ys)) + length zs ≤ length (cond v (x ∷ ws) ws)
        by true = omega (arith, less)
        by false = less

    pub anew_within : (xs : List X) → length (filter a (filter (λ x. not (b x)) xs)) + length (filter (λ x. b x && c x) xs) ≤ length (filter a xs)
    anew_within [] = omega arith
    anew_within (x ∷ xs) = one x (filter (λ y. not (b y)) xs) (filter (λ y. b y && c y) xs) (filter a xs) (b x) (c x) refl (anew_within xs)

  -- where none passes b
  module _ (b c : X → Bool) where
    pub none_passes : (xs : List X) → All (λ x. b x ≡ false) xs → (filter (λ x. not (b x)) xs ≡ xs) × (length (filter (λ x. b x && c x) xs) ≡ 0)
    none_passes [] all = (refl, refl)
    none_passes (x ∷ xs) all =
        let first : b x ≡ false = All-head (λ y. b y ≡ false) x xs all in
        let rest = none_passes xs (All-tail (λ y. b y ≡ false) x xs all) in (
          ap (λ (v : Bool). cond (not v) (x ∷ filter (λ y. not (b y)) xs) (filter (λ y. not (b y)) xs)) first ∙ ap (λ (ys : List X). x ∷ ys) rest.0,
          ap (λ (v : Bool). length (cond (v && c x) (x ∷ filter (λ y. b y && c y) xs) (filter (λ y. b y && c y) xs))) first ∙ rest.1,
        )

  -- what is so in each row is so in all
  pub all_rows : (P : X → Type 0) (rows : List (List X)) → ((k : ℕ) (row : List X) → slice_get rows k ≡ Some row → All P row) → All P (flat_map (λ row. row) rows)
  all_rows P [] each = λ k d within. absurd (omega (arith, within))
  all_rows P (row ∷ rows) each = All-append P row (flat_map (λ r. r) rows) (each 0 row refl) (all_rows P rows (λ k r is. each (suc k) r is))

  -- of each of a list one is made, or none
  pub all_made : {Y : Type 0} (P : X → Type 0) (number : Y → Option ℕ) (make : Y → ℕ → X) → ((y : Y) (n : ℕ) → P (make y n)) → (ys : List Y) → All P (flat_map (λ y. option_map_or (λ n. make y n ∷ []) (number y) []) ys)
  all_made P number make so [] = λ k d within. absurd (omega (arith, within))
  all_made P number make so (y ∷ ys) = All-append P (option_map_or (λ n. make y n ∷ []) (number y) []) (flat_map (λ z. option_map_or (λ n. make z n ∷ []) (number z) []) ys) (by (number y)) (all_made P number make so ys)
    where
      by : (o : Option ℕ) → All P (option_map_or (λ n. make y n ∷ []) o [])
      by None = λ k d within. absurd (omega (arith, within))
      by (Some n) = All-cons P (make y n) [] (so y n) (λ k d within. absurd (omega (arith, within)))

-- where one of two numbers is i, and among them is i, one of the two is among them
pub among_two : (among : ℕ → Bool) (i : ℕ) → among i ≡ true → (a b : ℕ) → (nat_eq a i || nat_eq b i) ≡ true → (among a || among b) ≡ true
among_two among i is a b h = by (nat_eq a i) (nat_eq b i) refl refl h
  where
    second : (v : Bool) → (v || true) ≡ true
    second true = refl
    second false = refl

    by : (u v : Bool) → nat_eq a i ≡ u → nat_eq b i ≡ v → (u || v) ≡ true → (among a || among b) ≡ true
    by true v e f k = ap (λ (w : Bool). w || among b) (ap among (eqb-true a i e) ∙ is)
    by false true e f k = ap (λ (w : Bool). among a || w) (ap among (eqb-true b i f) ∙ is) ∙ second (among a)
    by false false e f k = cc

pub same_number : (i : ℕ) → nat_eq i i ≡ true
same_number i = eq-eqb i i refl

-- each of two numbers is one of them
pub first_of : (i j : ℕ) → (nat_eq i i || nat_eq i j) ≡ true
first_of i j = ap (λ (v : Bool). v || nat_eq i j) (same_number i)

pub second_of : (i j : ℕ) → (nat_eq j i || nat_eq j j) ≡ true
second_of i j = by (nat_eq j i)
  where
    by : (v : Bool) → (v || nat_eq j j) ≡ true
    by true = refl
    by false = same_number j

pub no_items : {A B : Type 0} (R : A → B → Type 0) (xs : List A) → AllZip R xs [] → xs ≡ []
no_items R [] all = refl
no_items R (x ∷ xs) all = absurd all
