use Rattle.std.proofs.Common.{◌≡◌, take}
use Rattle.pz_state.specs.Marks.{changed}
use Rattle.pz_copy.specs.Parcels.{plain_objects}
use Rattle.pz_copy.specs.devices.Filling.{with_blanks}
use Rattle.pz_copy.proofs.unpacking.make_objects.Given as goal

abbrev pub invariant-loop-object : goal.invariant-loop-object
invariant-loop-object l = l.state ≡ changed l.initial.state (with_blanks l.initial.state.held (plain_objects (take l.object-index l.objects)))
