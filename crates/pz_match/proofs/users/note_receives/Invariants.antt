use Rattle.std.proofs.Common.{take}
use Rattle.pz_match.specs.devices.Users.{KeepsUsers, ReceivesNoted}
use Rattle.pz_match.proofs.users.note_receives.Given as goal

abbrev pub invariant-loop-receive : goal.invariant-loop-receive
invariant-loop-receive l = record {
  keeps : KeepsUsers l.initial.users l.users;
  noted : ReceivesNoted l.users l.process (take l.receive-index l.receives);
}
