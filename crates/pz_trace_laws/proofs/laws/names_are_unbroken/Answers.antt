use Rattle.pz_trace_laws.proofs.Names.{names_unbroken, messages_unbroken}
use Rattle.pz_trace_laws.proofs.laws.names_are_unbroken.Goals as goal

pub returns : goal.returns
returns c = record { names = names_unbroken; messages = messages_unbroken }
