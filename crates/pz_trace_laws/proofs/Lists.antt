-- What holds of each element of lists, and of what may be left out.
use Rattle.std.proofs.Common.{◌≡◌, ◌<◌, ℕ, zero, suc, List, [], ◌∷◌, ◌++◌, map, length, Option, Some, None, refl, arith}
use Rattle.std.specs.Prelude.{slice_get}
use Rattle.std.specs.Option.{unwrap_or, option_or}
use Rattle.pz_trace.specs.pz_syntax.ModelForm.{Each, IfWritten}

module _ {A : Type 0} (P : A → Type 0) where
  pub both : (xs ys : List A) → Each P xs → Each P ys → Each P (xs ++ ys)
  both [] ys h k = k
  both (x ∷ xs) ys h k = (h.0, both xs ys h.1 k)

  pub front : (xs ys : List A) → Each P (xs ++ ys) → Each P xs
  front [] ys h = tt
  front (x ∷ xs) ys h = (h.0, front xs ys h.1)

  pub behind : (xs ys : List A) → Each P (xs ++ ys) → Each P ys
  behind [] ys h = h
  behind (x ∷ xs) ys h = behind xs ys h.1

  pub each_at : (xs : List A) (i : ℕ) → Each P xs → IfWritten P (slice_get xs i)
  each_at [] i h = tt
  each_at (x ∷ xs) zero h = h.0
  each_at (x ∷ xs) (suc i) h = each_at xs i h.1

  pub either : (o p : Option A) → IfWritten P o → IfWritten P p → IfWritten P (option_or o p)
  either None p h k = k
  either (Some x) p h k = h

  -- a list that may be left out
  pub written : (o : Option (List A)) → IfWritten (Each P) o → Each P (unwrap_or o [])
  written None h = tt
  written (Some xs) h = h

pub in_map : {A B : Type 0} (P : B → Type 0) (f : A → B) (xs : List A) → Each (λ x. P (f x)) xs → Each P (map f xs)
in_map P f [] h = tt
in_map P f (x ∷ xs) h = (h.0, in_map P f xs h.1)

pub there : {A : Type 0} (xs : List A) (i : ℕ) → i < length xs → (x : A) × (slice_get xs i ≡ Some x)
there [] i below = absurd (omega (arith, below))
there (x ∷ xs) zero below = (x, refl)
there (x ∷ xs) (suc i) below = there xs i (omega (arith, below))
