-- What is found where the things of a list are held one after another against the earliest place of
-- those before them that are the same: violations such that none comes before all of them. A device
-- of the proofs.
use Rattle.std.specs.Prelude.{ℕ, Bool, List, [], ◌∷◌, ◌++◌, Option, Some, None, if◌then◌else◌}
use Rattle.pz_classes.specs.pz_syntax.declared.tokens.Pos.{Pos}
use Rattle.pz_check_violations.specs.declared.violation.Violation.{Violation}
use Rattle.pz_check_violations.specs.Order.{violation, pos_before}
use Rattle.pz_check_duplicates.specs.declared.places.Thing.{Thing}
use Rattle.pz_check_duplicates.specs.devices.Earlier.{earliest_of}

-- the later of two places, the second where neither is later
abbrev pub later : Pos → Pos → Pos
later q p = if pos_before p q then q else p

-- at the later of a place that was found and another, if one was found
abbrev pub later_of : ℕ → Option Pos → Pos → List Violation
later_of rule None p = []
later_of rule (Some q) p = violation rule (later q p) ∷ []

module _ {A : Type 0} (same : A → A → Bool) (place : A → Pos) (rule : ℕ) where
  -- each of these in turn, held against the earliest place that what is the same has so far
  abbrev pub found_in : List A → List A → List Violation
  found_in before [] = []
  found_in before (y ∷ ys) = later_of rule (earliest_of place (same y) None before) (place y) ++ found_in (before ++ (y ∷ [])) ys

  abbrev pub repeats : List A → List Violation
  repeats xs = found_in [] xs

-- things are the same by their keys
abbrev pub same_key : {K : Type 0} → (K → K → Bool) → Thing K → Thing K → Bool
same_key eq x y = eq x.key y.key

abbrev pub thing_place : {K : Type 0} → Thing K → Pos
thing_place t = t.place
