use Rattle.pz_classes.specs.pz_check_violations.Least.{LeastOf}
use Rattle.pz_classes.specs.CheckedView.{checked_model}
use Rattle.pz_check_openings.specs.devices.InClass.{Among, LargeAt}
use Rattle.pz_check_openings.proofs.each_class.large_at_any.Given as goal

abbrev pub invariant-loop-number : goal.invariant-loop-number
invariant-loop-number l = LeastOf (Among (LargeAt (checked_model l.checked) l.outlines l.class.0) l.number) l.least
