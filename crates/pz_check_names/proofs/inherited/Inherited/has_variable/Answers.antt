use Rattle.std.proofs.Common.{◌∙◌, map}
use Rattle.pz_classes.specs.pz_classes_rules.Numbers.{declaration}
use Rattle.pz_classes.specs.pz_classes_rules.Members.{own_variables}
use Rattle.pz_check_names.specs.devices.Inherited.{of_each}
use Rattle.pz_check_names.proofs.Along.{names_along}
use Rattle.pz_check_names.proofs.inherited.Inherited.has_variable.Goals as goal

pub returns : goal.returns
returns c = λ m line shown. c.has_name.ensures (of_each own_variables (map (declaration m) line)) shown.variables ∙ names_along m own_variables c.args.name.now line
