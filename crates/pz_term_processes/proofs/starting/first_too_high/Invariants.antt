use Rattle.pz_bind.specs.pz_classes.CheckedView.{checked_model}
use Rattle.pz_term_processes.specs.Standing.{setting_of}
use Rattle.pz_term_processes.proofs.Beginnings.{AllBeginLow}
use Rattle.pz_term_processes.proofs.starting.first_too_high.Given as goal

abbrev pub invariant-loop-process : goal.invariant-loop-process
invariant-loop-process l = AllBeginLow (setting_of (checked_model l.checked) l.limits) l.process
