use Rattle.std.proofs.Common.{◌≡◌, map, take}
use Rattle.pz_check_components.specs.devices.Walking.{number}
use Rattle.pz_check_components.proofs.numbering.numbers_of.Given as goal

abbrev pub invariant-loop-state : goal.invariant-loop-state
invariant-loop-state l = l.numbers.items ≡ map number (take l.state-index l.states)
