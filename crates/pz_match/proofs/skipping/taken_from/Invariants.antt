use Rattle.std.proofs.Common.{◌≡◌, ◌≤◌, take, length}
use Rattle.std.specs.Prelude.{sum_by}
use Rattle.pz_match.specs.devices.Lists.{upto}
use Rattle.pz_match.specs.devices.Seeking.{past}
use Rattle.pz_match.specs.devices.Sharing.{part_on, Calm}
use Rattle.pz_match.proofs.skipping.taken_from.Given as goal

abbrev pub invariant-loop-at : goal.invariant-loop-at
invariant-loop-at l =
    record {
      within : l.at ≤ length l.numbers;
      sum_is : sum_by (part_on l.groups l.shares l.wire l.block) (take (past l.numbers l.at) (upto (length l.groups))) ≡ l.sum;
      calm : Calm l.groups l.wire (past l.numbers l.at);
    }
