-- What values lead to, and that other values in another state lead to the same but for the numbers.
use Rattle.std.specs.Prelude.{◌≡◌, ℕ, List, map}
use Rattle.pz_state.specs.pz_value.declared.value.Value.{Value}
use Rattle.pz_state.specs.States.{StateView, object}
use Rattle.pz_copy.specs.References.{references, IsIn, renumbered, renumbered_object}

-- the values lead to this object
pub data Reachable (s : StateView) (values : List Value) : ℕ → Type 0 where
  named : (r : ℕ) → IsIn r (references values) → Reachable s values r
  further : (q r : ℕ) → Reachable s values q → IsIn r (references (object s q).items) → Reachable s values r

-- These values in the one state and those in the other are the same under a renaming of the objects
-- that they lead to: what was shared is shared, and what leads back to itself does so.
pub record SameUpToNumbers (s : StateView) (originals : List Value) (s' : StateView) (copies : List Value) : Type 0 where
  pub number : ℕ → ℕ
  pub one_to_one : (q r : ℕ) → Reachable s originals q → Reachable s originals r → number q ≡ number r → q ≡ r
  pub values : copies ≡ map (renumbered number) originals
  pub objects : (r : ℕ) → Reachable s originals r → object s' (number r) ≡ renumbered_object number (object s r)
  pub into : (r : ℕ) → Reachable s originals r → Reachable s' copies (number r)
  pub onto : (k : ℕ) → Reachable s' copies k → (r : ℕ) × Reachable s originals r × (number r ≡ k)
