-- Reading and writing in lists.
use Rattle.std.proofs.Common.{◌≡◌, ℕ, zero, suc, ◌-◌, ◌<◌, ◌≤◌, ◌++◌, take, append-nil, List, [], ◌∷◌, length, slice_index_or, slice_set, slice_get, Some, refl, ap, sym, ◌∙◌, arith}
use Rattle.std.proofs.lemmas.List.{get_or_default}
use Rattle.std.proofs.lemmas.Option.{unwrap_or-slice_get}
use Rattle.pz_value.specs.declared.value.Value.{Value}
use Rattle.pz_value.specs.declared.value.Value.TheVariants as value
use Rattle.pz_state.specs.States.{value_at, nils, fitted}

pub read_at : (values : List Value) (place : ℕ) (x : Value) → place < length values → x ≡ slice_index_or values place x → x ≡ value_at values place
read_at values place x lt e = e ∙ get_or_default values place x value.Nil lt ∙ sym (unwrap_or-slice_get values place value.Nil)

-- what stood at a place, written there again
pub set_back : {A : Type 0} (xs : List A) (i : ℕ) (old new : A) → slice_get xs i ≡ Some old → slice_set (slice_set xs i new) i old ≡ xs
set_back [] i old new e = refl
set_back (x ∷ xs) zero old new e = cc
set_back (x ∷ xs) (suc i) old new e = ap (λ ys. x ∷ ys) (set_back xs i old new e)

pub set_read : {A : Type 0} (xs : List A) (i : ℕ) (old new : A) → old ≡ slice_index_or xs i old → slice_set (slice_set xs i new) i old ≡ xs
set_read [] i old new e = refl
set_read (x ∷ xs) zero old new e = ap (λ y. y ∷ xs) e
set_read (x ∷ xs) (suc i) old new e = ap (λ ys. x ∷ ys) (set_read xs i old new e)

pub take-whole : {A : Type 0} (xs ys : List A) → take (length xs) (xs ++ ys) ≡ xs
take-whole [] ys = refl
take-whole (x ∷ xs) ys = ap (λ zs. x ∷ zs) (take-whole xs ys)

pub take-past : {A : Type 0} (n : ℕ) (xs : List A) → length xs ≤ n → take n xs ≡ xs
take-past zero [] le = refl
take-past (suc n) [] le = refl
take-past zero (x ∷ xs) le = absurd (omega arith)
take-past (suc n) (x ∷ xs) le = ap (λ zs. x ∷ zs) (take-past n xs (omega arith))

pub fitted-grown : (count : ℕ) (values : List Value) → length values ≤ count → values ++ nils (count - length values) ≡ fitted count values
fitted-grown count values le = ap (λ (vs : List Value). vs ++ nils (count - length values)) (sym (take-past count values le))

pub fitted-cut : (count : ℕ) (values : List Value) → count ≤ length values → take count values ≡ fitted count values
fitted-cut count values le = let none : count - length values ≡ 0 = omega arith in
    sym (append-nil (take count values)) ∙ ap (λ (n : ℕ). take count values ++ nils n) (sym none)
