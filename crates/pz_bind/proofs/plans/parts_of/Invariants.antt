use Rattle.std.proofs.Common.{◌≡◌, map, take}
use Rattle.pz_classes.specs.CheckedView.{checked_model}
use Rattle.pz_bind_rules.specs.devices.Layouts.{part_of}
use Rattle.pz_bind.proofs.plans.parts_of.Given as goal

abbrev pub invariant-loop-instance : goal.invariant-loop-instance
invariant-loop-instance l = l.parts ≡ map (part_of (checked_model l.checked)) (take l.instance-index l.instances)
