-- What a model declares, as elements of its list.
use Rattle.std.proofs.Common.{◌≡◌, ◌≤◌, ◌<◌, ap, ℕ, zero, suc, List, [], ◌∷◌, length, Some, slice_get, arith, ◌⊎◌, inl, inr}
use Rattle.std.specs.List.{Contains}
use Rattle.std.proofs.lemmas.Option.{slice_get_within}
use Rattle.pz_classes.specs.pz_syntax.Classes.{DeclTree, ModelTree}
use Rattle.pz_classes.specs.pz_classes_rules.Numbers.{declaration}
use Rattle.pz_check_duplicates.proofs.Lists.{none_in, in_cases, at_place}

-- the place of an element
record Place {A : Type 0} (xs : List A) (x : A) : Type 0 where
  pub place : ℕ
  pub there : slice_get xs place ≡ Some x

place_of : {A : Type 0} (xs : List A) (x : A) → Contains xs x → Place xs x
place_of [] x here = absurd (none_in x here)
place_of {A} (y ∷ ys) x here = by_part (λ later. place_of ys x later) (in_cases y ys x here)
  where
    by_part : (Contains ys x → Place ys x) → (y ≡ x) ⊎ Contains ys x → Place (y ∷ ys) x
    by_part rest (inl is) = record { place = zero; there = ap (λ (z : A). Some z) is }
    by_part rest (inr later) = let r = rest later in record { place = suc r.place; there = r.there }

module _ (m : ModelTree) where
  -- the number of what is declared
  pub record Numbered (d : DeclTree) : Type 0 where
    pub number : ℕ
    pub declared : declaration m number ≡ Some d

  pub number_of : (d : DeclTree) → Contains m.decls d → Numbered d
  number_of d here = let p = place_of m.decls d here in record { number = suc p.place; declared = p.there }

  pub among_declared : (c : ℕ) (d : DeclTree) → declaration m c ≡ Some d → Contains m.decls d
  among_declared zero d here = cc
  among_declared (suc i) d here = at_place m.decls i d here

  pub declared_within : (c : ℕ) (d : DeclTree) → declaration m c ≡ Some d → c ≤ length m.decls
  declared_within zero d here = omega arith
  declared_within (suc i) d here = let within : i < length m.decls = slice_get_within m.decls i d here in omega (arith, within)
