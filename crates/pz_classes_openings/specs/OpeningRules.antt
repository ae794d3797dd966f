-- The rules without which opening would not end, or would be too large: C23 and C24.
use Rattle.std.specs.Prelude.{◌≡◌, ◌<◌, ℕ, Some, Contains, IsTrue}
use Rattle.pz_classes_rules.specs.pz_syntax.declared.names.Id.{Id}
use Rattle.pz_classes_rules.specs.pz_syntax.Classes.{DeclTree, ProcessMethodTree, ModelTree}
use Rattle.pz_classes_rules.specs.pz_check_violations.declared.violation.Violation.{Violation}
use Rattle.pz_classes_rules.specs.pz_check_violations.Order.{violation, IsLeast}
use Rattle.pz_classes_rules.specs.Numbers.{declaration}
use Rattle.pz_classes_rules.specs.Kinds.{is_process}
use Rattle.pz_classes_rules.specs.Methods.{method_id}
use Rattle.pz_classes_openings.specs.Methods.{method_at}
use Rattle.pz_classes_openings.specs.Openings.{begun_at, HasMethod, called, Leads, spread_to}

-- C23: in some process class a method of the class begins with a call of itself, or of a method that
-- leads to it; at the called name. Classes without instances count.
pub data BreaksC23 (m : ModelTree) : Violation → Type 0 where
  round : (c k n : ℕ) (d : DeclTree) (x : Id) → declaration m c ≡ Some d → IsTrue (is_process d) → HasMethod m c k
      → Contains (begun_at m k) x → called m c x ≡ Some (method_id n) → Leads m c n k → BreaksC23 m (violation 23 x.pos)

-- C24: in some process class a method of the class is too large with all that opens out of it; at
-- the method's name
pub data BreaksC24 (m : ModelTree) : Violation → Type 0 where
  too_large : (c k depth : ℕ) (d : DeclTree) (r : ProcessMethodTree) → declaration m c ≡ Some d → IsTrue (is_process d) → HasMethod m c k
      → method_at m k ≡ Some r → 1000000 < spread_to m c depth k → BreaksC24 m (violation 24 r.name.pos)

-- neither is violated
pub record Opens (m : ModelTree) : Type 0 where
  pub rounds : (v : Violation) → BreaksC23 m v → ⊥
  pub sizes : (v : Violation) → BreaksC24 m v → ⊥

-- what is told: the least violation of C23; where there is none, the least of C24
pub data IsOpeningViolation (m : ModelTree) (v : Violation) : Type 0 where
  in_rounds : IsLeast (BreaksC23 m) v → IsOpeningViolation m v
  in_sizes : ((w : Violation) → BreaksC23 m w → ⊥) → IsLeast (BreaksC24 m) v → IsOpeningViolation m v
