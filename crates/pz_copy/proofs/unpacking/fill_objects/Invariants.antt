use Rattle.std.proofs.Common.{◌≡◌}
use Rattle.pz_state.specs.Marks.{changed}
use Rattle.pz_copy.specs.Parcels.{plain_objects}
use Rattle.pz_copy.specs.devices.Filling.{with_parts}
use Rattle.pz_copy.proofs.unpacking.fill_objects.Given as goal

abbrev pub invariant-loop-place : goal.invariant-loop-place
invariant-loop-place l = l.state ≡ changed l.initial.state (with_parts l.initial.state.held l.count l.place (plain_objects l.objects))
