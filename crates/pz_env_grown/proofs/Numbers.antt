-- Numbers and names of the classes of a model.
use Rattle.std.proofs.Common.{◌≡◌, refl, ℕ, zero, suc, ◌+◌, ◌<◌, ◌≤◌, Bool, true, false, List, [], ◌∷◌, length, Some, None, slice_get, arith}
use Rattle.std.proofs.lemmas.Option.{slice_get_within}
use Rattle.pz_bind_rules.specs.pz_syntax.Classes.{DeclTree, ModelTree}
use Rattle.pz_bind_rules.specs.pz_classes_rules.Numbers.{is_named, declaration, first_named, class}

pub none_some : {A : Type 0} (x : A) → None ≡ Some x → ⊥
none_some x is = cc

pub some_same : {A : Type 0} (x y : A) → Some x ≡ Some y → x ≡ y
some_same x y is = cc

number_within : (ds : List DeclTree) (n k : ℕ) (name : List ℕ) → first_named ds n name ≡ Some k → (n ≤ k) × (k < n + length ds)
number_within [] n k name is = absurd (none_some k is)
number_within (d ∷ ds) n k name is = by (is_named name d) refl (number_within ds (suc n) k name)
  where
    by : (b : Bool) → is_named name d ≡ b → (first_named ds (suc n) name ≡ Some k → (suc n ≤ k) × (k < suc n + length ds))
        → (n ≤ k) × (k < n + suc (length ds))
    by true has rest = let this : n ≡ k = some_same n k (rw has at is) in (omega arith, omega arith)
    by false has rest = let later = rest (rw has at is) in (omega (arith, later.0), omega (arith, later.1))

at_number : (ds : List DeclTree) (i : ℕ) → i < length ds → (d : DeclTree) × (slice_get ds i ≡ Some d)
at_number [] i below = absurd (omega arith)
at_number (d ∷ ds) zero below = (d, refl)
at_number (d ∷ ds) (suc i) below = at_number ds i (omega arith)

module _ (m : ModelTree) where
  pub declared_within : (c : ℕ) (d : DeclTree) → declaration m c ≡ Some d → c < suc (length m.decls)
  declared_within zero d is = omega arith
  declared_within (suc i) d is = let low = slice_get_within m.decls i d is in omega (arith, low)

  pub class_within : (name : List ℕ) (k : ℕ) → class m name ≡ Some k → k < suc (length m.decls)
  class_within name k is = let low = (number_within m.decls 1 k name is).1 in omega (arith, low)

  pub class_declared : (name : List ℕ) (k : ℕ) → class m name ≡ Some k → (d : DeclTree) × (declaration m k ≡ Some d)
  class_declared name zero is = let low = (number_within m.decls 1 0 name is).0 in absurd (omega (arith, low))
  class_declared name (suc i) is = let low = (number_within m.decls 1 (suc i) name is).1 in at_number m.decls i (omega (arith, low))
