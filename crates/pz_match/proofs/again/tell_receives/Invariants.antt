use Rattle.std.proofs.Common.{◌≡◌, length}
use Rattle.pz_match.specs.devices.Again.{receive_again, told_again}
use Rattle.pz_match.proofs.again.tell_receives.Given as goal

abbrev pub invariant-loop-offer : goal.invariant-loop-offer
invariant-loop-offer l = record {
  place : l.at ≡ length l.yielded;
  told : l.receives ≡ told_again receive_again l.initial.receives l.yielded;
}
