-- What is so if the classes are the model's, is so where that is a bare fact.
use Rattle.std.proofs.Common.{◌≡◌, ℕ, ◌<◌, Option}
use Rattle.std.proofs.Math.Logic.{∥∥₁_elim}
use Rattle.std.specs.Coded.{le_prop, coded_ℕ, coded_option}
use base.Stored.{Coded-set}

pub number_merely : {A : Type 0} (o p : Option ℕ) → ∥ A ∥₁ → (A → o ≡ p) → o ≡ p
number_merely o p a is = ∥∥₁_elim a (Coded-set (coded_option coded_ℕ) o p) is

pub below_merely : {A : Type 0} (m n : ℕ) → ∥ A ∥₁ → (A → m < n) → m < n
below_merely m n a below = ∥∥₁_elim a le_prop below
