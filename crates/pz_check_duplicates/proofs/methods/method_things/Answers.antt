use Rattle.pz_classes.proofs.pz_classes_rules_proofs.FewMarks.{data_methods_fit, process_methods_fit, data_inputs_fit, process_inputs_fit, process_outputs_fit}
use Rattle.pz_check_duplicates.proofs.methods.method_things.Goals as goal

pub data_things-requires : goal.data_things-requires
data_things-requires c = rw c.as_slice.ensures (data_inputs_fit c.in-Some.methods (data_methods_fit c.args.decl.now c.in-Data.class c.in-Some.methods c.in-Data.is c.in-Some.is c.requires))

pub process_things-requires-clause-inputs : goal.process_things-requires-clause-inputs
process_things-requires-clause-inputs c =
    rw c.as_slice-in-Some-methods.ensures (process_inputs_fit c.in-Some-methods.methods (process_methods_fit c.args.decl.now c.in-Process.class c.in-Some-methods.methods c.in-Process.is c.in-Some-methods.is c.requires))

pub process_things-requires-clause-outputs : goal.process_things-requires-clause-outputs
process_things-requires-clause-outputs c =
    rw c.as_slice-in-Some-methods.ensures (process_outputs_fit c.in-Some-methods.methods (process_methods_fit c.args.decl.now c.in-Process.class c.in-Some-methods.methods c.in-Process.is c.in-Some-methods.is c.requires))
