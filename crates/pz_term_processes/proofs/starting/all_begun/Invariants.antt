use Rattle.pz_bind.specs.pz_classes.CheckedView.{checked_model}
use Rattle.pz_term_processes.proofs.Starts.{AreStarted}
use Rattle.pz_term_processes.proofs.starting.all_begun.Given as goal

abbrev pub invariant-loop-process : goal.invariant-loop-process
invariant-loop-process l = AreStarted (checked_model l.checked) l.limits l.process l.processes.items
