use Rattle.std.proofs.Common.{◌≡◌, ◌+◌, take}
use Rattle.std.specs.Prelude.{sum_by}
use Rattle.pz_match.specs.devices.Seeking.{number_on}
use Rattle.pz_match.proofs.seeking.find_send.Given as goal

abbrev pub invariant-loop-place : goal.invariant-loop-place
invariant-loop-place l = sum_by (number_on l.sort l.groups.groups l.wire l.receives) (take l.place l.sends) + l.rest ≡ l.number
