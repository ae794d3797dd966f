-- The body of a method of a process class.
use Rattle.std.specs.Prelude.{◌≡◌, ℕ, List, Some}
use Rattle.pz_bind_rules.specs.pz_syntax.Classes.{ModelTree}
use Rattle.pz_bind_rules.specs.pz_classes_rules.Bodies.{process_body}
use Rattle.pz_bind_rules.specs.pz_classes_rules.MethodBodies.{process_method_body}
use Rattle.pz_rules.specs.Terms.{Steps}

-- that of the nearest ancestor that has a method of this name with so many inputs and outputs; it has
-- so many locals, the inputs and outputs among them
pub record IsMethod (m : ModelTree) (class : ℕ) (name : List ℕ) (inputs outputs locals : ℕ) (body : Steps) : Type 0 where
  pub is_body : process_method_body m class name inputs outputs ≡ Some (process_body locals body)
