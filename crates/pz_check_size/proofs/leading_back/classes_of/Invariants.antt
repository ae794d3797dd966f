use Rattle.std.proofs.Common.{◌≡◌, take}
use Rattle.pz_check_size.specs.devices.LeadingBack.{classes_of}
use Rattle.pz_check_size.proofs.leading_back.classes_of.Given as goal

abbrev pub invariant-loop-instance : goal.invariant-loop-instance
invariant-loop-instance l = l.classes ≡ classes_of (take l.instance-index l.held)
