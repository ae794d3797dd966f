use Rattle.pz_classes.specs.pz_classes_rules.Ancestors.{ancestors}
use Rattle.pz_check_names.specs.devices.Scopes.{model_of}
use Rattle.pz_check_names.proofs.scopes.has_shared.Goals as goal

pub returns-in-Data : goal.returns-in-Data
returns-in-Data c =
    let m = model_of c.args.declared.now in
    rw c.in-Data.is (c.has_field.ensures m (ancestors m c.args.scope.now.class.0) c.requires)

pub returns-in-Process : goal.returns-in-Process
returns-in-Process c =
    let m = model_of c.args.declared.now in
    rw c.in-Process.is (c.has_variable.ensures m (ancestors m c.args.scope.now.class.0) c.requires)
