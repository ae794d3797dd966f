-- The calls that lead back as a list, where the methods have numbers; a device of the proofs.
use Rattle.std.specs.Prelude.{ℕ, suc, Bool, false, nat_eq, List, [], ◌∷◌, ◌++◌, slice_get}
use Rattle.std.specs.Option.{option_map_or}
use Rattle.pz_check_violations.specs.declared.violation.Violation.{Violation}
use Rattle.pz_check_violations.specs.Order.{violation}
use Rattle.pz_check_violations.specs.Least.{listed}
use Rattle.pz_check_components.specs.Graph.{number_of}
use Rattle.pz_check_calls.specs.declared.graph.Call.{Call}
use Rattle.pz_check_calls.specs.declared.graph.Method.{Method}

abbrev pub is_numbered : List ℕ → ℕ → ℕ → Bool
is_numbered numbers number k = option_map_or (λ j. nat_eq j number) (slice_get numbers k) false

-- the calls whose method has the number
abbrev pub back_in : List ℕ → ℕ → List Call → List Violation
back_in numbers number [] = []
back_in numbers number (x ∷ xs) = listed (is_numbered numbers number x.method) (violation 23 x.pos) ++ back_in numbers number xs

-- those in these methods whose method has the same number; the first method is number k
abbrev pub back_among : List ℕ → ℕ → List Method → List Violation
back_among numbers k [] = []
back_among numbers k (r ∷ ms) = back_in numbers (number_of numbers k) r.begun ++ back_among numbers (suc k) ms
