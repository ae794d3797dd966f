use Rattle.std.proofs.Common.{◌≡◌, drop}
use Rattle.pz_classes.specs.CheckedView.{checked_model}
use Rattle.pz_bind_rules.specs.devices.Layouts.{outer_from}
use Rattle.pz_bind.proofs.plans.outer_of.Given as goal

abbrev pub invariant-loop-end : goal.invariant-loop-end
invariant-loop-end l = outer_from (checked_model l.checked) l.class (drop l.end-index l.ends) ≡ outer_from (checked_model l.checked) l.class l.ends
