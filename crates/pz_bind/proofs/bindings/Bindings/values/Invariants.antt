use Rattle.std.proofs.Common.{◌≡◌, map, take}
use Rattle.pz_bind.specs.devices.Bindings.{value_in}
use Rattle.pz_bind.proofs.bindings.Bindings.values.Given as goal

abbrev pub invariant-loop-place : goal.invariant-loop-place
invariant-loop-place l = l.values ≡ map (value_in l.self) (take l.place l.names.names)
