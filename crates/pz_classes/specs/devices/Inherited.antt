-- What the code keeps of fields, variables and ports.
use Rattle.std.specs.Prelude.{◌≡◌, ◌<◌, ◌^◌, ℕ, suc, List, [], ◌++◌, length, Some, slice_get}
use Rattle.std.specs.Option.{option_map_or}
use Rattle.pz_classes_code.specs.pz_syntax.Classes.{DeclTree, ModelTree}
use Rattle.pz_classes_rules.specs.Numbers.{declaration}
use Rattle.pz_classes_rules.specs.Ancestors.{ancestors}
use Rattle.pz_classes_rules.specs.Members.{own_fields, own_variables, own_ports, from_root, spelled}
use Rattle.pz_classes.specs.declared.members.Members.{Members}

-- the own ones come last
pub record Adds (d : DeclTree) (old new : Members) : Type 0 where
  pub fields : new.fields ≡ old.fields ++ spelled (own_fields d)
  pub variables : new.variables ≡ old.variables ++ spelled (own_variables d)
  pub ports : new.ports ≡ old.ports ++ spelled (own_ports d)

-- those of these classes, of which the last is the root
pub record HasMembers (m : ModelTree) (line : List ℕ) (members : Members) : Type 0 where
  pub fields : members.fields ≡ spelled (from_root own_fields m line)
  pub variables : members.variables ≡ spelled (from_root own_variables m line)
  pub ports : members.ports ≡ spelled (from_root own_ports m line)

abbrev pub none_yet : Members
none_yet = record { fields = []; variables = []; ports = [] }

-- what the class of this number has of its own comes last
pub record AddsAt (m : ModelTree) (c : ℕ) (old new : Members) : Type 0 where
  pub fields : new.fields ≡ old.fields ++ spelled (option_map_or own_fields (declaration m c) [])
  pub variables : new.variables ≡ old.variables ++ spelled (option_map_or own_variables (declaration m c) [])
  pub ports : new.ports ≡ old.ports ++ spelled (option_map_or own_ports (declaration m c) [])

-- at the number of each class of the model, Array included, what it has
pub record AreMembers (m : ModelTree) (table : List Members) : Type 0 where
  pub counted : length table ≡ suc (length m.decls)
  pub each : (c : ℕ) (members : Members) → slice_get table c ≡ Some members → HasMembers m (ancestors m c) members

-- 32 bits number them
pub record AreFew (members : Members) : Type 0 where
  pub fields : length members.fields < 2 ^ 32
  pub variables : length members.variables < 2 ^ 32
  pub ports : length members.ports < 2 ^ 32
