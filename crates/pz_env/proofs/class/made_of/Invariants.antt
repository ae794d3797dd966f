use Rattle.std.proofs.Common.{map}
use Rattle.pz_syntax.specs.StatementView as statement
use Rattle.pz_env.specs.devices.Ends.{ends_in}
use Rattle.pz_env.specs.devices.Said.{said_in}
use Rattle.pz_env.proofs.Making.{IsMade}
use Rattle.pz_env.proofs.class.made_of.Given as goal

abbrev pub invariant-loop-index : goal.invariant-loop-index
invariant-loop-index l = IsMade l.entries l.index (ends_in l.made.ends) (said_in l.made.said) l.made.ports l.made.messages (map statement.view l.made.body)
