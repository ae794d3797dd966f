use Rattle.std.proofs.Common.{◌≡◌, take}
use Rattle.pz_classes.specs.CheckedView.{checked_model}
use Rattle.pz_check_openings.specs.devices.InClass.{methods_in}
use Rattle.pz_check_openings.proofs.in_class.methods_in.Given as goal

abbrev pub invariant-loop-outline : goal.invariant-loop-outline
invariant-loop-outline l = l.found ≡ methods_in (checked_model l.checked) l.class.0 (take l.outline-index l.outlines)
