use Rattle.std.proofs.Common.{length}
use Rattle.pz_rules.specs.pz_bind_rules.Nest.{processes}
use Rattle.pz_debug_replies.proofs.Searched.{number_merely}
use Rattle.pz_debug_replies.proofs.names.process_count.Goals as goal

pub returns-clause-counted : goal.returns-clause-counted
returns-clause-counted c = λ m is. number_merely c.processes.result (length (processes m)) is (λ known. c.processes.ensures.counted m known)
