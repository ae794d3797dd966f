-- A number that is known of the net of a model is known where that net is a bare fact.
use Rattle.std.proofs.Common.{◌≡◌, ℕ}
use Rattle.std.proofs.Math.Logic.{∥∥₁_elim}
use Rattle.std.specs.Coded.{coded_ℕ}
use base.Stored.{Coded-set}

pub number_merely : {A : Type 0} (m n : ℕ) → ∥ A ∥₁ → (A → m ≡ n) → m ≡ n
number_merely m n a is = ∥∥₁_elim a (Coded-set coded_ℕ m n) is
