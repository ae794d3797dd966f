use Rattle.pz_term.proofs.Shown.{limits_are}
use Rattle.pz_term.proofs.plain.Plain.limits.Goals as goal

pub returns-clause-limits : goal.returns-clause-limits
returns-clause-limits c = limits_are c.args.self.now
