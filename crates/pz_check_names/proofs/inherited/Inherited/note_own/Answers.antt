use Rattle.pz_check_names.proofs.Counted.{inputs_fit, outputs_fit}
use Rattle.pz_check_names.proofs.inherited.Inherited.note_own.Goals as goal

pub note_process-requires-clause-inputs : goal.note_process-requires-clause-inputs
note_process-requires-clause-inputs c = inputs_fit c.args.decl.now c.in-Process.class c.in-Process.is c.requires

pub note_process-requires-clause-outputs : goal.note_process-requires-clause-outputs
note_process-requires-clause-outputs c = outputs_fit c.args.decl.now c.in-Process.class c.in-Process.is c.requires
