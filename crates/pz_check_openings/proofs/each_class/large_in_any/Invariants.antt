use Rattle.pz_classes.specs.pz_check_violations.Least.{LeastOf}
use Rattle.pz_classes.specs.CheckedView.{checked_model}
use Rattle.pz_check_openings.specs.devices.InClass.{Among, LargeIn}
use Rattle.pz_check_openings.specs.devices.Suspects.{Marked}
use Rattle.pz_check_openings.proofs.each_class.large_in_any.Given as goal

abbrev pub invariant-loop-class : goal.invariant-loop-class
invariant-loop-class l = LeastOf (Among (Marked l.marks (LargeIn (checked_model l.checked) l.outlines)) l.class) l.least
