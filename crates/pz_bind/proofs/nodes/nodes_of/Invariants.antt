use Rattle.std.proofs.Common.{◌≡◌, map, take}
use Rattle.pz_classes.specs.CheckedView.{checked_model}
use Rattle.pz_bind_rules.specs.Nest.{processes}
use Rattle.pz_bind.specs.devices.Nets.{node_at}
use Rattle.pz_bind.proofs.nodes.nodes_of.Given as goal

abbrev pub invariant-loop-process : goal.invariant-loop-process
invariant-loop-process l = l.nodes ≡ map (node_at (checked_model l.checked)) (take l.process-index (processes (checked_model l.checked)))
