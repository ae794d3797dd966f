use Rattle.std.proofs.Common.{◌≡◌}
use Rattle.std.specs.Prelude.{map}
use Rattle.pz_match.specs.devices.Lists.{upto}
use Rattle.pz_match.specs.devices.Kept.{kept}
use Rattle.pz_match.specs.devices.Updating.{silent}
use Rattle.pz_match.proofs.updating.silence.Given as goal

abbrev pub invariant-loop-process : goal.invariant-loop-process
invariant-loop-process l = map kept l.all.items ≡ map silent (upto l.process)
