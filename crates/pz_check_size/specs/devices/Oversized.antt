-- The systems whose totals are above a limit, as a device of the proofs.
use Rattle.std.specs.Prelude.{ℕ, suc, List, [], ◌++◌, ◌∷◌}
use Rattle.pz_classes.specs.pz_syntax.Classes.{DeclTree, system}
use Rattle.pz_check_violations.specs.declared.violation.Violation.{Violation}
use Rattle.pz_check_violations.specs.Order.{violation}
use Rattle.pz_check_violations.specs.Least.{listed}
use Rattle.pz_check_size.specs.declared.totals.Totals.{Totals}
use Rattle.pz_check_size.specs.devices.Levels.{total_in, is_above}

abbrev pub oversized_at : Totals → DeclTree → List Violation
oversized_at t (system s) = listed (is_above t) (violation 19 s.pos)
oversized_at t _ = []

-- of these, of which the first has number n
abbrev pub oversized_among : List Totals → ℕ → List DeclTree → List Violation
oversized_among totals n [] = []
oversized_among totals n (d ∷ ds) = oversized_at (total_in totals n) d ++ oversized_among totals (suc n) ds
