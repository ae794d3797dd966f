use Rattle.std.proofs.Common.{◌≡◌, ◌≤◌, ◌+◌, take, length}
use Rattle.std.specs.Prelude.{sum_by, map}
use Rattle.pz_match.specs.devices.Kept.{kept}
use Rattle.pz_match.specs.devices.Seeking.{from_process, past}
use Rattle.pz_match.proofs.seeking.find_on.Given as goal

abbrev pub invariant-loop-at : goal.invariant-loop-at
invariant-loop-at l = record {
  within : l.at ≤ length l.senders;
  adds : sum_by (from_process l.sort l.groups.groups l.wire) (take (past l.senders l.at) (map kept l.all)) + l.rest ≡ l.number;
}
