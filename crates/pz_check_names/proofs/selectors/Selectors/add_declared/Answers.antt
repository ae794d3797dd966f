use Rattle.pz_classes.proofs.pz_classes_rules_proofs.FewMarks.{data_methods_fit, data_inputs_fit}
use Rattle.pz_check_names.proofs.selectors.Selectors.add_declared.Goals as goal

pub add_methods-requires : goal.add_methods-requires
add_methods-requires c =
    rw c.as_slice.ensures (data_inputs_fit c.in-Some.methods (data_methods_fit c.args.decl.now c.in-Data.class c.in-Some.methods c.in-Data.is c.in-Some.is c.requires))
