-- What is so if the classes are the model's, is so where that is a bare fact.
use Rattle.std.proofs.Common.{◌≡◌, ℕ, Option}
use Rattle.std.proofs.Math.Logic.{∥∥₁_elim}
use Rattle.std.proofs.Math.Nat.{ℕ_set}
use Rattle.std.specs.Coded.{coded_option}
use base.Stored.{Coded-set}
use Rattle.pz_classes.specs.pz_classes_rules.declared.method_id.MethodId.{MethodId}
use Rattle.pz_classes.specs.pz_classes_rules.contracts.method_id.MethodId as id_contract

pub count_merely : {A : Type 0} (n k : ℕ) → ∥ A ∥₁ → (A → n ≡ k) → n ≡ k
count_merely n k a is = ∥∥₁_elim a (ℕ_set n k) is

pub method_merely : {A : Type 0} (o p : Option MethodId) → ∥ A ∥₁ → (A → o ≡ p) → o ≡ p
method_merely o p a is = ∥∥₁_elim a (Coded-set (coded_option id_contract.the_row.coded) o p) is
