-- The values that the variables of a process have at first.
use Rattle.std.specs.Prelude.{ℕ, List, [], ◌∷◌, map, if◌then◌else◌}
use Rattle.std.specs.Option.{option_map_or, unwrap_or}
use Rattle.std.specs.Int.{w64, int_wrapping_neg}
use Rattle.std.specs.Str.{bytes_eq}
use Rattle.pz_classes_rules.specs.pz_syntax.declared.clusters.Arg.{Arg}
use Rattle.pz_classes_rules.specs.pz_syntax.declared.clusters.Arg.TheVariants.{Plain, Negated, Parameter}
use Rattle.pz_classes_rules.specs.pz_syntax.declared.clusters.Given.{Given}
use Rattle.pz_classes_rules.specs.pz_syntax.Classes.{ModelTree}
use Rattle.pz_classes_rules.specs.pz_value.declared.value.Value.{Value}
use Rattle.pz_classes_rules.specs.pz_value.declared.value.Value.TheVariants.{Nil, Int}
use Rattle.pz_classes_rules.specs.pz_classes_code.Literals.{constant}
use Rattle.pz_classes_rules.specs.Members.{variables, spelled}
use Rattle.pz_bind_levels.specs.Places.{Address}
use Rattle.pz_bind_rules.specs.Nest.{class_at, instance_at}

-- the value of an argument, where the parameters of the cluster around the instance have these values
abbrev pub argument_value : (List ℕ → Value) → Arg → Value
argument_value outer (Plain l pos) = constant l
argument_value outer (Negated n pos) = Int (int_wrapping_neg w64 n)
argument_value outer (Parameter x) = outer x.name

-- the value that is given to the parameter of this name; nil where none is
abbrev pub given_value : (List ℕ → Value) → List Given → List ℕ → Value
given_value outer [] name = Nil
given_value outer (g ∷ gs) name = if bytes_eq name g.name.name then argument_value outer g.arg else given_value outer gs name

module _ (m : ModelTree) where
  -- the value of this parameter of what stands at this place; the system has no parameters
  abbrev pub parameter_at : Address → List ℕ → Value
  parameter_at [] name = Nil
  parameter_at (i ∷ up) name = option_map_or (λ x. given_value (parameter_at up) (unwrap_or x.given []) name) (instance_at m up i) Nil

  -- one for each parameter and variable of the class of the process, in order: what is given to it,
  -- nil for a variable
  abbrev pub values_at : Address → List Value
  values_at place = map (parameter_at place) (spelled (variables m (class_at m place)))
