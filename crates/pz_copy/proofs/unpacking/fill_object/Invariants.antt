use Rattle.std.proofs.Common.{◌≡◌}
use Rattle.pz_state.specs.Marks.{changed}
use Rattle.pz_copy.specs.devices.Filling.{filled}
use Rattle.pz_copy.proofs.Objects.{partly}
use Rattle.pz_copy.proofs.unpacking.fill_object.Given as goal

abbrev pub invariant-loop-place : goal.invariant-loop-place
invariant-loop-place l = l.state ≡ changed l.initial.state (filled l.r (partly l.count l.items l.place) l.initial.state.held)
