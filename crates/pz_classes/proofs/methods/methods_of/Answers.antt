use Rattle.pz_classes_rules.proofs.FewMarks.{data_methods_fit, process_methods_fit, data_inputs_fit, process_inputs_fit, process_outputs_fit}
use Rattle.pz_classes.proofs.methods.methods_of.Goals as goal

pub data_methods-requires-clause-inputs : goal.data_methods-requires-clause-inputs
data_methods-requires-clause-inputs c = rw c.as_slice.ensures (data_inputs_fit c.in-Some.methods (data_methods_fit c.args.decl.now c.in-Data.declared c.in-Some.methods c.in-Data.is c.in-Some.is c.requires.marks))

pub process_methods-requires-clause-inputs : goal.process_methods-requires-clause-inputs
process_methods-requires-clause-inputs c =
    rw c.as_slice-in-Some-methods.ensures (process_inputs_fit c.in-Some-methods.methods (process_methods_fit c.args.decl.now c.in-Process.declared c.in-Some-methods.methods c.in-Process.is c.in-Some-methods.is c.requires.marks))

pub process_methods-requires-clause-outputs : goal.process_methods-requires-clause-outputs
process_methods-requires-clause-outputs c =
    rw c.as_slice-in-Some-methods.ensures (process_outputs_fit c.in-Some-methods.methods (process_methods_fit c.args.decl.now c.in-Process.declared c.in-Some-methods.methods c.in-Process.is c.in-Some-methods.is c.requires.marks))
