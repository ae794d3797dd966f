-- Methods that lead to each other by the look-up along a line of classes, as a device of the proofs.
use Rattle.std.specs.Prelude.{◌≡◌, ℕ, List, Option, Some, Contains}
use Rattle.pz_classes.specs.pz_syntax.declared.names.Id.{Id}
use Rattle.pz_classes.specs.pz_syntax.Classes.{ModelTree}
use Rattle.pz_classes.specs.pz_check_violations.declared.violation.Violation.{Violation}
use Rattle.pz_classes.specs.pz_check_violations.Order.{violation}
use Rattle.pz_classes.specs.pz_classes_rules.declared.method_id.Counts.TheVariants.{Process}
use Rattle.pz_classes.specs.pz_classes_rules.declared.method_id.MethodId.{MethodId}
use Rattle.pz_classes.specs.pz_classes_rules.Methods.{Signature, method_id, own_method, nearest}
use Rattle.pz_classes_openings.specs.Openings.{begun_at}

abbrev pub plain : Id → Signature
plain x = record { name = x.name; counts = Process 0 0 }

-- the method that a plain call means along these classes
abbrev pub called_along : ModelTree → List ℕ → Id → Option MethodId
called_along m line x = nearest (own_method m (plain x)) line

-- method k leads to another through methods of this kind alone
pub data Through (Kind : ℕ → Type 0) (m : ModelTree) (line : List ℕ) (k : ℕ) : ℕ → Type 0 where
  itself : Kind k → Through Kind m line k k
  further : (n l : ℕ) (x : Id) → Through Kind m line k n → Contains (begun_at m n) x → called_along m line x ≡ Some (method_id l) → Kind l → Through Kind m line k l

-- a call by which one of them begins with itself through them alone
pub data RoundThrough (Kind : ℕ → Type 0) (m : ModelTree) (line : List ℕ) : Violation → Type 0 where
  round_through : (k n : ℕ) (x : Id) → Contains (begun_at m k) x → called_along m line x ≡ Some (method_id n) → Through Kind m line n k → RoundThrough Kind m line (violation 23 x.pos)

-- class c itself declares one of them, as a plain method
pub record DeclaresOne (Kind : ℕ → Type 0) (m : ModelTree) (c : ℕ) : Type 0 where
  pub call : Id
  pub method : ℕ
  pub kind : Kind method
  pub own : own_method m (plain call) c ≡ Some (method_id method)
