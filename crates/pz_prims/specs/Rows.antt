-- Rows of a table of selectors. A row is a selector and what a value answers to it.
use Rattle.std.specs.Prelude.{ℕ, List, [], ◌∷◌, Option, None, Some, Result, if◌then◌else◌, bytes_eq, option_map}
use Rattle.pz_state.specs.pz_value.declared.value.Value.{Value}
use Rattle.pz_state.specs.declared.fault.FaultKind.{FaultKind}

-- an X, or what is wrong
abbrev pub Answer : Type 0 → Type 0
Answer X = Result X FaultKind

-- What one value answers: to selectors without arguments, with one, and with two.
pub record Rows (X : Type 0) : Type 0 where
  pub alone : List (List ℕ × Answer X)
  pub with_one : List (List ℕ × (Value → Answer X))
  pub with_two : List (List ℕ × (Value → Value → Answer X))

-- what stands beside the selector, in the first row that has it
abbrev pub beside : {A : Type 0} → List ℕ → List (List ℕ × A) → Option A
beside selector [] = None
beside selector (row ∷ rows) = if bytes_eq selector row.0 then Some row.1 else beside selector rows

-- the answer to a selector with these arguments; none where no row has the selector with so many
unfoldable pub answered : {X : Type 0} → Rows X → List ℕ → List Value → Option (Answer X)
answered rows selector [] = beside selector rows.alone
answered rows selector (v ∷ []) = option_map (λ answer. answer v) (beside selector rows.with_one)
answered rows selector (v ∷ w ∷ []) = option_map (λ answer. answer v w) (beside selector rows.with_two)
answered rows selector (v ∷ w ∷ x ∷ more) = None
