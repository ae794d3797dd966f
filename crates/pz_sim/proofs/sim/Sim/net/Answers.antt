use Rattle.std.proofs.Common.{subst}
use Rattle.pz_rules.specs.pz_syntax.Classes.{ModelTree}
use Rattle.pz_bind.specs.devices.Nets.{IsNet}
use Rattle.pz_sim.proofs.Kept.{model_is}
use Rattle.pz_sim.proofs.sim.Sim.net.Goals as goal

pub returns-clause-net : goal.returns-clause-net
returns-clause-net c = subst (λ (m : ModelTree). ∥ IsNet m c.args.self.now.net ∥₁) (model_is c.args.self.now) c.args.self.now.of_model
