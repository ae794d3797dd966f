-- What stands twice in a list that is put together, stands twice in one of its parts, or across them.
use Rattle.std.proofs.Common.{◌≡◌, sym, ap, ◌∙◌, ℕ, zero, suc, ◌+◌, Bool, List, [], ◌∷◌, ◌++◌, length, Some, IsTrue, slice_get, arith, ◌⊎◌, inl, inr}
use Rattle.std.specs.List.{Contains}
use Rattle.std.proofs.lemmas.Option.{slice_get_within}
use Rattle.pz_env_tree.specs.pz_syntax.declared.tokens.Pos.{Pos}
use Rattle.pz_env_tree.specs.pz_classes_rules.RepeatRules.{Repeats}
use Rattle.pz_env_grown.proofs.Elements.{later_in}
use Rattle.pz_env_grown.proofs.Numbers.{none_some, some_same}

module _ {A : Type 0} where
  -- an element at its place is an element
  pub at_place : (xs : List A) (i : ℕ) (x : A) → slice_get xs i ≡ Some x → Contains xs x
  at_place [] i x is = absurd (none_some x is)
  at_place (y ∷ ys) zero x is = (0, omega arith, some_same y x is)
  at_place (y ∷ ys) (suc i) x is = later_in y ys x (at_place ys i x is)

  -- where an element of two lists in one stands
  data IsAt (xs ys : List A) (i : ℕ) (x : A) : Type 0 where
    in_front : slice_get xs i ≡ Some x → IsAt xs ys i x
    behind : (j : ℕ) → i ≡ length xs + j → slice_get ys j ≡ Some x → IsAt xs ys i x

  is_at : (xs ys : List A) (i : ℕ) (x : A) → slice_get (xs ++ ys) i ≡ Some x → IsAt xs ys i x
  is_at [] ys i x is = behind i (omega arith) is
  is_at (y ∷ xs) ys zero x is = in_front is
  is_at (y ∷ xs) ys (suc i) x is = on (is_at xs ys i x is)
    where
      on : IsAt xs ys i x → IsAt (y ∷ xs) ys (suc i) x
      on (in_front there) = in_front there
      on (behind j number there) = behind j (omega (arith, number)) there

  module _ (same : A → A → Bool) (place : A → Pos) where
    pub in_parts : (xs ys : List A) (y : A) → ((a b : A) → Contains xs a → Contains ys b → IsTrue (same a b) → ⊥)
        → ((a b : A) → Contains xs a → Contains ys b → IsTrue (same b a) → ⊥)
        → Repeats same place (xs ++ ys) y → Repeats same place xs y ⊎ Repeats same place ys y
    in_parts xs ys y across back r = by (is_at xs ys r.first_at r.first r.first_there) (is_at xs ys r.again_at y r.again_there)
      where
        by : IsAt xs ys r.first_at r.first → IsAt xs ys r.again_at y → Repeats same place xs y ⊎ Repeats same place ys y
        by (in_front a) (in_front b) =
            inl (record { first = r.first; first_at = r.first_at; again_at = r.again_at; first_there = a; again_there = b; apart = r.apart; alike = r.alike; later = r.later })
        by (in_front a) (behind j number b) = absurd (across r.first y (at_place xs r.first_at r.first a) (at_place ys j y b) r.alike)
        by (behind i number a) (in_front b) = absurd (back y r.first (at_place xs r.again_at y b) (at_place ys i r.first a) r.alike)
        by (behind i first_number a) (behind j again_number b) =
            inr (record {
              first = r.first;
              first_at = i;
              again_at = j;
              first_there = a;
              again_there = b;
              apart = λ is. r.apart (first_number ∙ ap (λ (k : ℕ). length xs + k) is ∙ sym again_number);
              alike = r.alike;
              later = r.later;
            })

    pub none_repeats : (y : A) → Repeats same place [] y → ⊥
    none_repeats y r = none_some y r.again_there

    pub one_repeats : (x y : A) → Repeats same place (x ∷ []) y → ⊥
    one_repeats x y r =
        let first = slice_get_within (x ∷ []) r.first_at r.first r.first_there in
        let again = slice_get_within (x ∷ []) r.again_at y r.again_there in
        r.apart (omega (arith, first, again))
