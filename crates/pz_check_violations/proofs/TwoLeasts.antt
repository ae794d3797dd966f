-- The least of two searches.
use Rattle.std.proofs.Common.{◌≡◌, refl, Bool, true, false, Option, Some, None, ◌⊎◌, inl, inr}
use Rattle.pz_check_violations.specs.declared.violation.Violation.{Violation}
use Rattle.pz_check_violations.specs.Order.{is_before, IsLeast}
use Rattle.pz_check_violations.specs.Least.{LeastOf, lesser, sooner}
use Rattle.pz_check_violations.proofs.Order.{never_before, not_behind}

module _ (V W : Violation → Type 0) where
  abbrev Either : Violation → Type 0
  Either v = V v ⊎ W v

  first_is_least : (v w : Violation) → IsLeast V v → IsLeast W w → is_before w v ≡ false → IsLeast Either v
  first_is_least v w a b is = record {
    violated = inl a.violated;
    least = λ u here. elim here [ inl x ↦ a.least u x | inr y ↦ never_before u w v (b.least u y) is ];
  }

  second_is_least : (v w : Violation) → IsLeast V v → IsLeast W w → is_before w v ≡ true → IsLeast Either w
  second_is_least v w a b is = record {
    violated = inr b.violated;
    least = λ u here. elim here [ inl x ↦ never_before u v w (a.least u x) (not_behind w v is) | inr y ↦ b.least u y ];
  }

  least_of_some : (a : Option Violation) (w : Violation) → LeastOf V a → IsLeast W w → LeastOf Either (lesser a w)
  least_of_some None w none b = record { violated = inr b.violated; least = λ u here. elim here [ inl x ↦ absurd (none u x) | inr y ↦ b.least u y ] }
  least_of_some (Some v) w a b = by_test (is_before w v) refl
    where
      by_test : (t : Bool) → is_before w v ≡ t → LeastOf Either (lesser (Some v) w)
      by_test true is = rw is (second_is_least v w a b is)
      by_test false is = rw is (first_is_least v w a b is)

  least_of_none : (a : Option Violation) → LeastOf V a → ((v : Violation) → W v → ⊥) → LeastOf Either a
  least_of_none None none never = λ v here. elim here [ inl x ↦ none v x | inr y ↦ never v y ]
  least_of_none (Some v) a never = record { violated = inl a.violated; least = λ u here. elim here [ inl x ↦ a.least u x | inr y ↦ absurd (never u y) ] }

  -- the sooner of the least of either is the least of both
  pub sooner_is_least : (a b : Option Violation) → LeastOf V a → LeastOf W b → LeastOf (λ v. V v ⊎ W v) (sooner a b)
  sooner_is_least a None first none = least_of_none a first none
  sooner_is_least a (Some w) first second = least_of_some a w first second
