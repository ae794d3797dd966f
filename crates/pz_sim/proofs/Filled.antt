-- Lists that are gone through from the front: so many are one thing by now, and the others another.
use Rattle.std.proofs.Common.{◌≡◌, ◌<◌, ◌≤◌, ◌+◌, ◌∙◌, ◌⊎◌, inl, inr, ℕ, zero, suc, List, [], ◌∷◌, ◌++◌, length, map, set, replicate, Some, refl, sym, ap, subst, arith}
use Rattle.std.specs.Prelude.{slice_get}
use Rattle.std.proofs.lemmas.Option.{same_Some}

module _ {X Y : Type 0} (f g : X → Y) where
  abbrev pub filled : ℕ → List X → List Y
  filled k [] = []
  filled zero (x ∷ xs) = g x ∷ filled zero xs
  filled (suc k) (x ∷ xs) = f x ∷ filled k xs

  pub filled_none : (xs : List X) → filled zero xs ≡ map g xs
  filled_none [] = refl
  filled_none (x ∷ xs) = ap (λ (ys : List Y). g x ∷ ys) (filled_none xs)

  pub filled_all : (xs : List X) → filled (length xs) xs ≡ map f xs
  filled_all [] = refl
  filled_all (x ∷ xs) = ap (λ (ys : List Y). f x ∷ ys) (filled_all xs)

  -- there are no more
  pub filled_past : (k : ℕ) (xs : List X) → length xs ≤ k → filled k xs ≡ map f xs
  filled_past k [] past = refl
  filled_past zero (x ∷ xs) past = absurd (omega (arith, past))
  filled_past (suc k) (x ∷ xs) past = ap (λ (ys : List Y). f x ∷ ys) (filled_past k xs (omega (arith, past)))

  next_filled : (k : ℕ) (xs : List X) (x : X) → slice_get xs k ≡ Some x → set (filled k xs) k (f x) ≡ filled (suc k) xs
  next_filled k [] x is = absurd cc
  next_filled zero (y ∷ xs) x is = ap (λ (z : X). f z ∷ filled zero xs) (sym (same_Some y x is))
  next_filled (suc k) (y ∷ xs) x is = ap (λ (ys : List Y). f y ∷ ys) (next_filled k xs x is)

  pub filled_next : (k : ℕ) (xs : List X) (x : X) → slice_get xs k ≡ Some x → set (filled k xs) k (f x) ≡ filled (k + 1) xs
  filled_next k xs x is = next_filled k xs x is ∙ ap (λ (n : ℕ). filled n xs) (let e : suc k ≡ k + 1 = omega arith in e)

  pub filled_here : (k : ℕ) (xs : List X) (x : X) → slice_get xs k ≡ Some x → slice_get (filled k xs) k ≡ Some (g x)
  filled_here k [] x is = absurd cc
  filled_here zero (y ∷ xs) x is = ap (λ (z : X). Some (g z)) (same_Some y x is)
  filled_here (suc k) (y ∷ xs) x is = filled_here k xs x is

  pub filled_at : (k i : ℕ) (xs : List X) (y : Y) → slice_get (filled k xs) i ≡ Some y → (x : X) × (slice_get xs i ≡ Some x) × ((y ≡ f x) ⊎ (y ≡ g x))
  filled_at k i [] y is = absurd cc
  filled_at zero zero (x ∷ xs) y is = (x, refl, inr (sym (same_Some (g x) y is)))
  filled_at zero (suc i) (x ∷ xs) y is = filled_at zero i xs y is
  filled_at (suc k) zero (x ∷ xs) y is = (x, refl, inl (sym (same_Some (f x) y is)))
  filled_at (suc k) (suc i) (x ∷ xs) y is = filled_at k i xs y is

pub all_alike : {X Y : Type 0} (y : Y) (xs : List X) → map (λ (x : X). y) xs ≡ replicate (length xs) y
all_alike y [] = refl
all_alike {X} {Y} y (x ∷ xs) = ap (λ (ys : List Y). y ∷ ys) (all_alike y xs)

-- one more has become another
pub moved_one : {X Y Z : Type 0} (f : X → Z) (g : Y → Z) (xs : List X) (x : X) (y : Y) (ys : List Y) → f x ≡ g y → map f (xs ++ x ∷ []) ++ map g ys ≡ map f xs ++ map g (y ∷ ys)
moved_one {X} {Y} {Z} f g [] x y ys e = ap (λ (z : Z). z ∷ map g ys) e
moved_one {X} {Y} {Z} f g (w ∷ xs) x y ys e = ap (λ (zs : List Z). f w ∷ zs) (moved_one f g xs x y ys e)

pub at_end : {X : Type 0} (xs : List X) (x : X) (ys : List X) → slice_get (xs ++ x ∷ ys) (length xs) ≡ Some x
at_end [] x ys = refl
at_end (w ∷ xs) x ys = at_end xs x ys

-- the last of a list, or one before it
pub last_or_before : {X : Type 0} (P : ℕ → X → Type 0) (xs : List X) (x : X) → ((i : ℕ) (y : X) → slice_get xs i ≡ Some y → P i y) → P (length xs) x
    → (i : ℕ) (y : X) → slice_get (xs ++ x ∷ []) i ≡ Some y → P i y
last_or_before P [] x before last zero y is = subst (P 0) (same_Some x y is) last
last_or_before P [] x before last (suc i) y is = absurd cc
last_or_before P (z ∷ zs) x before last zero y is = before 0 y is
last_or_before P (z ∷ zs) x before last (suc i) y is = last_or_before (λ j. P (suc j)) zs x (λ j w. before (suc j) w) last i y is

pub got_within : {X : Type 0} (xs : List X) (i n : ℕ) → i < n → n ≡ length xs → (x : X) × (slice_get xs i ≡ Some x)
got_within [] i n less e = absurd (omega (arith, less, e))
got_within (x ∷ xs) zero n less e = (x, refl)
got_within (x ∷ xs) (suc i) n less e = got_within xs i (length xs) (omega (arith, less, e)) refl
