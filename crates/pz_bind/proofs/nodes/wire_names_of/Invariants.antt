use Rattle.std.proofs.Common.{◌≡◌, map, take}
use Rattle.pz_classes.specs.CheckedView.{checked_model}
use Rattle.pz_bind_rules.specs.Names.{wire_name}
use Rattle.pz_bind_rules.specs.Wires.{wires}
use Rattle.pz_bind.proofs.nodes.wire_names_of.Given as goal

abbrev pub invariant-loop-wire : goal.invariant-loop-wire
invariant-loop-wire l = l.names ≡ map (wire_name (checked_model l.checked)) (take l.wire-index (wires (checked_model l.checked)))
