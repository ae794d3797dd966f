-- Bounds by name that settle all classes at once, as a device of the proofs.
use Rattle.std.specs.Prelude.{◌≡◌, ◌≤◌, ◌+◌, ℕ, Bool, ◌&&◌, nat_eq, List, IsTrue}
use Rattle.std.specs.Option.{option_map_or}
use Rattle.std.specs.List.{sum_by}
use Rattle.pz_classes.specs.pz_classes_code.declared.numbering.Numbering.{Numbering}
use Rattle.pz_classes.specs.pz_classes_code.NumberIn.{number_in}
use Rattle.pz_check_calls.specs.Calls.{total_in}
use Rattle.pz_check_openings.specs.declared.outline.Outline.{Outline}

abbrev pub value_of : Numbering → List ℕ → List ℕ → ℕ
value_of names bounds name = option_map_or (λ k. total_in bounds k) (number_in names name) 0

abbrev pub is_plain : Outline → Bool
is_plain o = nat_eq o.inputs 0 && nat_eq o.outputs 0

-- a method keeps to the bounds
pub record Settles (bound : List ℕ → ℕ) (o : Outline) : Type 0 where
  pub small : o.statements + sum_by (λ x. bound x.name) o.calls ≤ 1000000
  pub covered : IsTrue (is_plain o) → o.statements + sum_by (λ x. bound x.name) o.begun ≤ bound o.name.name
