use Rattle.std.proofs.Common.{◌≡◌, ◌++◌, drop}
use Rattle.pz_classes.specs.CheckedView.{checked_model}
use Rattle.pz_check_openings.specs.devices.InClass.{calls_in}
use Rattle.pz_check_openings.proofs.in_class.calls_in.Given as goal

abbrev pub invariant-loop-call : goal.invariant-loop-call
invariant-loop-call l = l.found ++ calls_in (checked_model l.checked) l.class.0 (drop l.call-index l.calls) ≡ calls_in (checked_model l.checked) l.class.0 l.calls
