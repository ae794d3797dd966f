-- What a search for the least violation finds.
use Rattle.std.specs.Prelude.{◌≡◌, Bool, List, [], ◌∷◌, Option, Some, None, if◌then◌else◌, ◌⊎◌}
use Rattle.pz_check_violations.specs.declared.violation.Violation.{Violation}
use Rattle.pz_check_violations.specs.Order.{is_before, IsLeast}

-- none where nothing is violated, else a least violation
abbrev pub LeastOf : (Violation → Type 0) → Option Violation → Type 0
LeastOf Violated None = (v : Violation) → Violated v → ⊥
LeastOf Violated (Some v) = IsLeast Violated v

-- The rest is a device of the proofs: the violations as a list.

-- the violation where the test says so
abbrev pub listed : Bool → Violation → List Violation
listed b v = if b then v ∷ [] else []

-- the one before the other, the first where neither is
abbrev pub lesser : Option Violation → Violation → Option Violation
lesser None v = Some v
lesser (Some u) v = Some (if is_before v u then v else u)

-- of what two searches found, the one before the other
abbrev pub sooner : Option Violation → Option Violation → Option Violation
sooner found None = found
sooner found (Some v) = lesser found v

abbrev pub least_from : Option Violation → List Violation → Option Violation
least_from least [] = least
least_from least (v ∷ vs) = least_from (lesser least v) vs

-- it is one of these
abbrev pub Member : Violation → List Violation → Type 0
Member v [] = ⊥
Member v (w ∷ ws) = (w ≡ v) ⊎ Member v ws
