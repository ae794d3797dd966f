use Rattle.pz_env.specs.devices.Ends.{ends_in}
use Rattle.pz_env.proofs.Making.{AreJoined}
use Rattle.pz_env.proofs.closing.add_channels.Given as goal

abbrev pub invariant-loop-index : goal.invariant-loop-index
invariant-loop-index l = AreJoined l.entries l.index (ends_in l.ends) l.fn.channels l.channels
