-- Lists of which elements were replaced.
use Rattle.std.proofs.Common.{◌≡◌, ◌≢◌, ℕ, zero, suc, ◌<◌, List, [], ◌∷◌, length, map, set, Some, get_or, refl, sym, subst, ap, ◌∙◌, arith}
use Rattle.std.specs.Option.{option_map}
use Rattle.std.specs.Prelude.{slice_get}
use Rattle.std.proofs.lemmas.List.{set-set, set_comm, length-set, get_or-set_same, get_or-set_other}
use Rattle.std.proofs.lemmas.Option.{slice_get-map}

module _ {A : Type 0} where
  pub some_is : (x y : A) → Some x ≡ Some y → x ≡ y
  some_is x y same = cc

  pub get_same : (xs : List A) (i : ℕ) (y : A) → i < length xs → slice_get (set xs i y) i ≡ Some y
  get_same [] i y within = absurd (omega arith)
  get_same (x ∷ xs) zero y within = refl
  get_same (x ∷ xs) (suc i) y within = get_same xs i y (omega arith)

  pub get_other : (xs : List A) (i j : ℕ) (y : A) → i ≢ j → slice_get (set xs i y) j ≡ slice_get xs j
  get_other [] i j y apart = refl
  get_other (x ∷ xs) zero zero y apart = absurd (apart refl)
  get_other (x ∷ xs) zero (suc j) y apart = refl
  get_other (x ∷ xs) (suc i) zero y apart = refl
  get_other (x ∷ xs) (suc i) (suc j) y apart = get_other xs i j y (λ e. apart (ap suc e))

  -- what stood there, put back
  pub set_back : (xs : List A) (i : ℕ) (x : A) → slice_get xs i ≡ Some x → set xs i x ≡ xs
  set_back [] i x there = refl
  set_back (y ∷ xs) zero x there = ap (λ (z : A). z ∷ xs) (sym (some_is y x there))
  set_back (y ∷ xs) (suc i) x there = ap (λ (zs : List A). y ∷ zs) (set_back xs i x there)

  pub set_within : (xs : List A) (i : ℕ) (y : A) (j : ℕ) → j < length xs → j < length (set xs i y)
  set_within xs i y j within = subst (λ (n : ℕ). j < n) (sym (length-set xs i y)) within

  -- what was written at two places, one after the other, stands there

  pub first_still : (xs : List A) (i j : ℕ) (a b d : A) → i ≢ j → i < length xs → get_or (set (set xs i a) j b) i d ≡ a
  first_still xs i j a b d apart within = get_or-set_other (set xs i a) j i b d apart ∙ get_or-set_same xs i a d within

  pub second_still : (xs : List A) (i j : ℕ) (a b c d : A) → i ≢ j → j < length xs → get_or (set (set (set xs i a) j b) i c) j d ≡ b
  second_still xs i j a b c d apart within =
      get_or-set_other (set (set xs i a) j b) i j c d (λ e. apart (sym e)) ∙ get_or-set_same (set xs i a) j b d (set_within xs i a j within)

  -- written twice, what stands at last
  pub both_set : (xs : List A) (i j : ℕ) (a b c d : A) → i ≢ j → set (set (set (set xs i a) j b) i c) j d ≡ set (set xs i c) j d
  both_set xs i j a b c d apart =
      ap (λ (zs : List A). set zs j d) (set_comm (set xs i a) j i b c (λ e. apart (sym e)) ∙ ap (λ (zs : List A). set zs j b) (set-set xs i a c))
      ∙ set-set (set xs i c) j b d

  -- written at both, and put back at both
  pub both_back : (xs : List A) (i j : ℕ) (a x b y : A) → i ≢ j → slice_get xs i ≡ Some x → slice_get xs j ≡ Some y → b ≡ y → set (set (set xs i a) j b) i x ≡ xs
  both_back xs i j a x b y apart at_i at_j same =
      ap (λ (z : A). set (set (set xs i a) j z) i x) same
      ∙ ap (λ (zs : List A). set zs i x) (set_back (set xs i a) j y (get_other xs i j a apart ∙ at_j))
      ∙ set-set xs i a x ∙ set_back xs i x at_i

-- what stands in a list, of what stands in that of its images
pub mapped_there : {A B : Type 0} (f : A → B) (xs : List A) (i : ℕ) (y : B) → slice_get (map f xs) i ≡ Some y → (x : A) × (slice_get xs i ≡ Some x) × (f x ≡ y)
mapped_there f [] i y there = cc
mapped_there f (x ∷ xs) zero y there = (x, refl, some_is (f x) y there)
mapped_there f (x ∷ xs) (suc i) y there = mapped_there f xs i y there

pub image_there : {A B : Type 0} (f : A → B) (xs : List A) (i : ℕ) (x : A) → slice_get xs i ≡ Some x → slice_get (map f xs) i ≡ Some (f x)
image_there f xs i x there = slice_get-map f xs i ∙ ap (option_map f) there
