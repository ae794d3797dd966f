use Rattle.std.proofs.Common.{take}
use Rattle.pz_match.specs.devices.Users.{KeepsUsers, SendsNoted}
use Rattle.pz_match.proofs.users.note_sends.Given as goal

abbrev pub invariant-loop-send : goal.invariant-loop-send
invariant-loop-send l = record {
  keeps : KeepsUsers l.initial.users l.users;
  noted : SendsNoted l.users l.process (take l.send-index l.sends);
}
