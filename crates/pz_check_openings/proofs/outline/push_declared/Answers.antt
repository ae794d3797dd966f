use Rattle.std.proofs.lemmas.Result.{on_ok_weaker}
use Rattle.pz_classes.proofs.pz_classes_rules_proofs.FewMarks.{process_methods_fit, process_inputs_fit, process_outputs_fit}
use Rattle.pz_check_openings.proofs.Listed.{process_outlines}
use Rattle.pz_check_openings.proofs.outline.push_declared.Goals as goal

pub push_process-requires-clause-inputs : goal.push_process-requires-clause-inputs
push_process-requires-clause-inputs c =
    rw c.as_slice.ensures (process_inputs_fit c.in-Some-methods.methods (process_methods_fit c.args.decl.now c.in-Process.class c.in-Some-methods.methods c.in-Process.is c.in-Some-methods.is c.requires))

pub push_process-requires-clause-outputs : goal.push_process-requires-clause-outputs
push_process-requires-clause-outputs c =
    rw c.as_slice.ensures (process_outputs_fit c.in-Some-methods.methods (process_methods_fit c.args.decl.now c.in-Process.class c.in-Some-methods.methods c.in-Process.is c.in-Some-methods.is c.requires))

pub returns-in-Some-methods : goal.returns-in-Some-methods
returns-in-Some-methods c = on_ok_weaker c.push_process.result (λ pushed.
    process_outlines c.args.decl.now c.in-Process.class c.in-Some-methods.methods c.as_slice.result.now c.args.outlines.now c.push_process.new.outlines c.in-Process.is c.in-Some-methods.is c.as_slice.ensures pushed) c.push_process.ensures
