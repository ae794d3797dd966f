use Rattle.pz_term.proofs.Shown.{model_is}
use Rattle.pz_term.proofs.plain.Plain.checked.Goals as goal

pub returns-clause-model : goal.returns-clause-model
returns-clause-model c = model_is c.args.self.now
