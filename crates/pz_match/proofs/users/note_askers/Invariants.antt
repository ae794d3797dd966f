use Rattle.std.proofs.Common.{take}
use Rattle.pz_match.specs.devices.Users.{KeepsUsers, AskersNoted}
use Rattle.pz_match.proofs.users.note_askers.Given as goal

abbrev pub invariant-loop-receive : goal.invariant-loop-receive
invariant-loop-receive l = record {
  keeps : KeepsUsers l.initial.askers l.askers;
  noted : AskersNoted l.askers l.process (take l.receive-index l.receives);
}
