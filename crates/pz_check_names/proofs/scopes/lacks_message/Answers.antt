use Rattle.std.proofs.Common.{ap, Bool, not}
use Rattle.pz_classes.specs.pz_classes_rules.Ancestors.{ancestors}
use Rattle.pz_check_names.specs.devices.Scopes.{model_of}
use Rattle.pz_check_names.proofs.scopes.lacks_message.Goals as goal

pub returns : goal.returns
returns c =
    let m = model_of c.args.declared.now in
    ap (λ (b : Bool). not b) (c.has_message.ensures m (ancestors m c.args.scope.now.class.0) c.requires)
