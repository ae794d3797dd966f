-- What the closed model has: all that the model with the further channels has, and one process more.
use Rattle.std.specs.Prelude.{◌≡◌, ℕ, suc, List, [], ◌∷◌, ◌++◌, length, map, Some}
use Rattle.pz_env_mimics.specs.pz_syntax.Classes.{ModelTree}
use Rattle.pz_env_mimics.specs.pz_classes_rules.Numbers.{class}
use Rattle.pz_env_mimics.specs.pz_classes_rules.Members.{variables, ports}
use Rattle.pz_env_mimics.specs.pz_classes_rules.ClassNames.{class_names}
use Rattle.pz_bind_levels.specs.Places.{Address}
use Rattle.pz_env_mimics.specs.pz_bind_rules.Nest.{class_at, instances_at, processes}
use Rattle.pz_env_mimics.specs.pz_bind_rules.Wires.{wires}
use Rattle.pz_env_mimics.specs.pz_env_script.declared.entry.Entry.{Entry}
use Rattle.pz_env_mimics.specs.pz_env_rules.Environment.{Line}
use Rattle.pz_env_mimics.specs.pz_env_rules.Ends.{first_mentions}
use Rattle.pz_env_mimics.specs.pz_env_rules.Joining.{joined}
use Rattle.pz_env_mimics.specs.pz_env_tree.Names.{class_name, variable_name, port_of}
use Rattle.pz_env_mimics.specs.pz_env_tree.EnvironmentClass.{named}
use Rattle.pz_env_mimics.specs.pz_env_tree.ClosedTree.{closed_by}
use Rattle.pz_env_mimics.specs.pz_env_tree.Refusals.{IsFirstRefused}

-- the script may drive the system of the model
abbrev pub IsAccepted : ModelTree → List Entry → Type 0
IsAccepted m script = (line : ℕ) → ¬ IsFirstRefused m script line

-- the class of the environment is the last, and its instance stands behind those of the system
abbrev pub environment_class_number : ModelTree → ℕ
environment_class_number m = suc (length m.decls)

abbrev pub environment_place : ModelTree → Address
environment_place m = length (instances_at m []) ∷ []

pub record HasOneMore (m : ModelTree) (lines : List Line) : Type 0 where
  pub names : class_names (closed_by m lines) ≡ class_names m ++ class_name ∷ []
  pub class : class (closed_by m lines) class_name ≡ Some (environment_class_number m)
  pub processes : processes (closed_by m lines) ≡ processes (joined m lines) ++ environment_place m ∷ []
  pub is_of : class_at (closed_by m lines) (environment_place m) ≡ environment_class_number m
  -- its one variable, and a port for each end that the script names
  pub variables : variables (closed_by m lines) (environment_class_number m) ≡ named variable_name ∷ []
  pub ports : ports (closed_by m lines) (environment_class_number m) ≡ map (port_of lines) (first_mentions lines)
  -- the same wires, with the same numbers
  pub wires : wires (joined m lines) ≡ wires (closed_by m lines)
