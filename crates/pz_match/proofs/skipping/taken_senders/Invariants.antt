use Rattle.std.proofs.Common.{◌≡◌, ◌≤◌, ◌+◌, ◌*◌, ◌-◌, take, length}
use Rattle.std.specs.Prelude.{sum_by, map}
use Rattle.pz_match.specs.declared.groups.Sort.TheVariants.{Taken}
use Rattle.pz_match.specs.devices.Kept.{kept}
use Rattle.pz_match.specs.devices.Seeking.{from_process, past}
use Rattle.pz_match.proofs.skipping.taken_senders.Given as goal

abbrev pub invariant-loop-at : goal.invariant-loop-at
invariant-loop-at l = record {
  within : l.at ≤ length l.blocks - 1;
  place_is : l.seat.place ≡ 64 * past l.blocks l.at;
  adds : sum_by (from_process Taken l.groups.groups l.wire) (take l.seat.place (map kept l.all)) + l.seat.rest ≡ l.number;
}
