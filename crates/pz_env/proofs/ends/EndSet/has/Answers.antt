use Rattle.std.proofs.Common.{refl, ◌∙◌}
use Rattle.pz_env.specs.devices.Ends.{named}
use Rattle.pz_env.proofs.Sets.{any_named}
use Rattle.pz_env.proofs.ends.EndSet.has.Goals as goal

pub returns : goal.returns
returns c = c.contains.ensures ∙ any_named _ (named c.args.instance.now c.args.port.now) (λ k. refl) c.args.self.now.set.keys
