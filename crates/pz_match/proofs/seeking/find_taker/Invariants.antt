use Rattle.std.proofs.Common.{◌≡◌, ◌≤◌, ◌+◌, take, length}
use Rattle.std.specs.Prelude.{sum_by, map}
use Rattle.pz_match.specs.devices.Kept.{kept, heard}
use Rattle.pz_match.specs.devices.Seeking.{sought, past}
use Rattle.pz_match.proofs.seeking.find_taker.Given as goal

abbrev pub invariant-loop-at : goal.invariant-loop-at
invariant-loop-at l = record {
  within : l.at ≤ length l.users;
  adds : sum_by (λ e. length (sought l.sort (heard l.send e))) (take (past l.users l.at) (map kept l.all)) + l.rest ≡ l.number;
}
