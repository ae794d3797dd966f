use Rattle.std.proofs.Common.{◌≡◌, ◌∙◌, subst, map}
use Rattle.std.specs.List.{list_any}
use Rattle.pz_classes.specs.pz_classes_rules.Numbers.{declaration}
use Rattle.pz_classes.specs.pz_classes_rules.Methods.{Signature, same_signature, process_signature}
use Rattle.pz_check_names.specs.devices.Inherited.{of_each, own_methods}
use Rattle.pz_check_names.proofs.Shown.{value_shown}
use Rattle.pz_check_names.proofs.Calls.{methods_along}
use Rattle.pz_check_names.proofs.inherited.Inherited.has_method.Goals as goal

pub returns : goal.returns
returns c = λ m line shown.
    let lists = of_each own_methods (map (declaration m) line) in
    let found = c.is_some.ensures ∙ value_shown _ _ lists c.args.self.now.methods c.new.result shown.methods c.get.result c.get.ensures.value in
    subst (λ (s : Signature). c.is_some.result ≡ list_any (λ rs. list_any (λ r. same_signature s (process_signature r)) rs) lists) c.new.ensures found
    ∙ methods_along m c.args.name.now c.args.inputs c.args.outputs line
