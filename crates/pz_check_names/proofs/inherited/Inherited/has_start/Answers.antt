use Rattle.std.proofs.Common.{◌∙◌, map}
use Rattle.pz_classes.specs.pz_classes_rules.Numbers.{declaration}
use Rattle.pz_check_names.specs.devices.Inherited.{of_each, own_starts}
use Rattle.pz_check_names.proofs.Shown.{value_shown}
use Rattle.pz_check_names.proofs.Along.{starts_along}
use Rattle.pz_check_names.proofs.inherited.Inherited.has_start.Goals as goal

pub returns : goal.returns
returns c = λ m line shown.
    c.is_some.ensures ∙ (value_shown _ _ (of_each own_starts (map (declaration m) line)) c.args.self.now.starts tt shown.starts c.get.result c.get.ensures.value
    ∙ starts_along m line)
