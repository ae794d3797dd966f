use Rattle.std.proofs.Common.{◌≡◌, take}
use Rattle.pz_classes.specs.pz_syntax.ClassView.{model_view}
use Rattle.pz_check_size.specs.devices.Nodes.{all_held}
use Rattle.pz_check_size.proofs.nodes.held_of.Given as goal

abbrev pub invariant-loop-instance : goal.invariant-loop-instance
invariant-loop-instance l = l.held ≡ all_held (model_view l.model) (take l.instance-index l.instances)
