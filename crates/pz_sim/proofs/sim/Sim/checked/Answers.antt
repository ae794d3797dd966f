use Rattle.pz_sim.proofs.Kept.{model_is}
use Rattle.pz_sim.proofs.sim.Sim.checked.Goals as goal

pub returns-clause-model : goal.returns-clause-model
returns-clause-model c = model_is c.args.self.now
