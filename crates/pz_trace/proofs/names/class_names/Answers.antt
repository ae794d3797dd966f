use Rattle.pz_bind.specs.pz_classes.CheckedView.{checked_model}
use Rattle.pz_rules.specs.pz_classes_rules.ClassNames.{class_names}
use Rattle.pz_trace.proofs.Naming.{names_merely}
use Rattle.pz_trace.proofs.names.class_names.Goals as goal

pub returns : goal.returns
returns c =
    let m = checked_model c.args.checked.now in
    names_merely c.names.result.now (class_names m) c.classes.ensures.tabled (λ known. c.names.ensures m known)
