use Rattle.std.proofs.Common.{ℕ, take}
use Rattle.std.specs.Prelude.{Contains}
use Rattle.pz_match.specs.devices.Users.{Gathered}
use Rattle.pz_match.proofs.hearing.gather.Given as goal

abbrev pub invariant-loop-receive : goal.invariant-loop-receive
invariant-loop-receive l = record {
  keeps : (n : ℕ) → Contains l.initial.places n → Contains l.places n;
  gathered : Gathered l.senders l.places (take l.receive-index l.receives);
}
