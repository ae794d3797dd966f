-- Suspects by ranks that are in order, and by none.
use Rattle.std.proofs.Common.{◌≡◌, refl, ℕ, ◌≤◌, max, fold, Bool, true, false, ◌||◌, not, nat_le, IsTrue, List, [], ◌∷◌, map, Option, Some, None, slice_get, arith}
use Rattle.std.specs.Option.{option_map_or}
use Rattle.std.proofs.lemmas.Bool.Decides.{nat_tests}
use Rattle.pz_classes.specs.pz_syntax.declared.names.Id.{Id}
use Rattle.pz_classes.specs.pz_classes_code.declared.numbering.Numbering.{Numbering}
use Rattle.pz_classes.specs.pz_classes_code.NumberIn.{number_in}
use Rattle.pz_check_calls.specs.Calls.{total_in}
use Rattle.pz_check_openings.specs.declared.outline.Outline.{Outline}
use Rattle.pz_check_openings.specs.devices.Settling.{value_of, is_plain}
use Rattle.pz_check_openings.specs.devices.Suspects.{highest, is_ordered, is_suspect, kept, AreSuspects}

-- without ranks each name has rank 0
no_rank : (names : Numbering) (name : List ℕ) → value_of names [] name ≡ 0
no_rank names name = by_number (number_in names name)
  where
    by_number : (o : Option ℕ) → option_map_or (λ k. total_in [] k) o 0 ≡ 0
    by_number None = refl
    by_number (Some k) = refl

lowest : (names : Numbering) (a : ℕ) (xs : List Id) → a ≡ 0 → fold (λ b x. max b (value_of names [] x.name)) a xs ≡ 0
lowest names a [] is = is
lowest names a (x ∷ xs) is = lowest names (max a (value_of names [] x.name)) xs (let none : value_of names [] x.name ≡ 0 = no_rank names x.name in omega (arith, none))

none_ordered : (names : Numbering) (o : Outline) → IsTrue (is_ordered (value_of names []) o)
none_ordered names o = either (is_plain o) (nat_le (highest (value_of names []) o.begun) (value_of names [] o.name.name)) (low (highest (value_of names []) o.begun) (value_of names [] o.name.name) (lowest names 0 o.begun refl))
  where
    low : (a b : ℕ) → a ≡ 0 → nat_le a b ≡ true
    low a b is = let below : a ≤ b = omega arith in grind (arith, nat_tests)

    either : (p q : Bool) → q ≡ true → (not p || q) ≡ true
    either true q is = is
    either false q is = refl

pub by_none : (names : Numbering) (all those : List (Option Outline)) → those ≡ map (kept (is_suspect (value_of names []))) all → AreSuspects all those
by_none names all those are = record { rank = value_of names []; ordered = λ k o at. none_ordered names o; are = are }

pub by_order : (rank : List ℕ → ℕ) (all those : List (Option Outline)) → ((k : ℕ) (o : Outline) → slice_get all k ≡ Some (Some o) → IsTrue (is_ordered rank o)) → those ≡ map (kept (is_suspect rank)) all → AreSuspects all those
by_order rank all those ordered are = record { rank = rank; ordered = ordered; are = are }
