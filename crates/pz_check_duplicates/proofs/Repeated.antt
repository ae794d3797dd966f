-- Repeats of a list, and what is found in two lists whose things repeat one another alike.
use Rattle.std.proofs.Common.{◌≡◌, refl, ap, ◌∙◌, ℕ, Bool, List, [], ◌∷◌, ◌++◌, map, Option, None, if◌then◌else◌}
use Rattle.std.proofs.lemmas.List.{map-append}
use Rattle.pz_classes.specs.pz_syntax.declared.tokens.Pos.{Pos}
use Rattle.pz_check_violations.specs.declared.violation.Violation.{Violation}
use Rattle.pz_check_violations.specs.Order.{violation}
use Rattle.pz_classes.specs.pz_classes_rules.RepeatRules.{Repeats}
use Rattle.pz_check_duplicates.specs.devices.Earlier.{earlier, earliest_of}
use Rattle.pz_check_duplicates.specs.devices.Again.{later_of, found_in, repeats}

-- a repeat at which the violation is
pub record At {A : Type 0} (same : A → A → Bool) (place : A → Pos) (rule : ℕ) (xs : List A) (v : Violation) : Type 0 where
  pub again : A
  pub repeat : Repeats same place xs again
  pub is : violation rule (place again) ≡ v

-- what is found in a list by what its elements stand for
module _ {A B : Type 0} (same : A → A → Bool) (place : A → Pos) (f : A → B) (same_b : B → B → Bool) (place_b : B → Pos)
    (alike : (x y : A) → same x y ≡ same_b (f x) (f y)) (stands : (x : A) → place x ≡ place_b (f x)) where
  earliest_seen : (y : A) (found : Option Pos) (xs : List A) → earliest_of place (same y) found xs ≡ earliest_of place_b (same_b (f y)) found (map f xs)
  earliest_seen y found [] = refl
  earliest_seen y found (x ∷ xs) =
      earliest_seen y (if same y x then earlier found (place x) else found) xs
      ∙ ap (λ (o : Option Pos). earliest_of place_b (same_b (f y)) o (map f xs)) (rw (alike y x, stands x) refl)

  found_seen : (rule : ℕ) (before ys : List A) → found_in same place rule before ys ≡ found_in same_b place_b rule (map f before) (map f ys)
  found_seen rule before [] = refl
  found_seen rule before (y ∷ ys) =
      rw (earliest_seen y None before, stands y, found_seen rule (before ++ (y ∷ [])) ys, map-append f before (y ∷ [])) refl

  pub repeats_seen : (rule : ℕ) (xs : List A) → repeats same place rule xs ≡ repeats same_b place_b rule (map f xs)
  repeats_seen rule xs = found_seen rule [] xs
