use Rattle.std.proofs.Common.{◌≡◌, ◌≤◌, ◌+◌, ◌*◌, ◌-◌, take, length}
use Rattle.std.specs.Prelude.{sum_by, map}
use Rattle.pz_match.specs.declared.groups.Sort.TheVariants.{Taken}
use Rattle.pz_match.specs.devices.Kept.{kept, heard}
use Rattle.pz_match.specs.devices.Seeking.{sought, past}
use Rattle.pz_match.proofs.skipping.free_receivers.Given as goal

abbrev pub invariant-loop-at : goal.invariant-loop-at
invariant-loop-at l = record {
  within : l.at ≤ length l.blocks - 1;
  place_is : l.seat.place ≡ 64 * past l.blocks l.at;
  adds : sum_by (λ e. length (sought Taken (heard l.send e))) (take l.seat.place (map kept l.all)) + l.seat.rest ≡ l.number;
}
