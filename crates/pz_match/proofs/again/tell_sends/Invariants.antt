use Rattle.std.proofs.Common.{◌≡◌, length}
use Rattle.pz_match.specs.devices.Again.{send_again, told_again}
use Rattle.pz_match.proofs.again.tell_sends.Given as goal

abbrev pub invariant-loop-offer : goal.invariant-loop-offer
invariant-loop-offer l = record {
  place : l.at ≡ length l.yielded;
  told : l.sends ≡ told_again send_again l.initial.sends l.yielded;
}
