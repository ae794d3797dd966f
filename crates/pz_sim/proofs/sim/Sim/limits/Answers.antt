use Rattle.pz_sim.proofs.Kept.{limits_are}
use Rattle.pz_sim.proofs.sim.Sim.limits.Goals as goal

pub returns-clause-limits : goal.returns-clause-limits
returns-clause-limits c = limits_are c.args.self.now
