use Rattle.pz_rules.proofs.Starts.{of_process_class}
use Rattle.pz_rules.proofs.laws.processes_have_classes.Goals as goal

pub returns : goal.returns
returns c = record { law = of_process_class }
