-- Which classes and methods a table has.
use Rattle.std.specs.Prelude.{◌<◌, length}
use Rattle.pz_classes_code.specs.pz_value.declared.value.ClassId.{ClassId}
use Rattle.pz_classes_rules.specs.declared.method_id.MethodId.{MethodId}
use Rattle.pz_classes.specs.declared.classes.Classes.{Classes}

-- the class is one of these
abbrev pub HasClass : Classes → ClassId → Type 0
HasClass classes c = c.0 < length classes.entries

-- the method is one of these
abbrev pub HasMethod : Classes → MethodId → Type 0
HasMethod classes method = method.0 < length classes.bodies
