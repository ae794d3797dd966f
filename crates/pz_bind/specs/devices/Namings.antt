-- What the names in a level stand for, as the code keeps it.
use Rattle.std.specs.Prelude.{◌≡◌, ℕ, List, map}
use Rattle.pz_bind_rules.specs.pz_syntax.declared.clusters.Instance.{Instance}
use Rattle.pz_bind_rules.specs.pz_syntax.Classes.{ModelTree}
use Rattle.pz_classes.specs.CheckedView.{checked_model}
use Rattle.pz_bind_rules.specs.pz_classes_code.NumberIn.{number_in}
use Rattle.pz_bind.specs.declared.naming.Naming.{Naming}
use Rattle.pz_bind_rules.specs.devices.Layouts.{instance_number, part_of}

-- what the names in a level of the model stand for where these instances stand
pub record IsNaming (m : ModelTree) (xs : List Instance) (n : Naming) : Type 0 where
  pub parts : n.parts.now ≡ map (part_of m) xs
  pub numbers : (q : List ℕ) → number_in n.numbers q ≡ instance_number xs q
  pub model : checked_model n.checked.now ≡ m
