use Rattle.std.proofs.Common.{refl, ap, ◌∙◌, not, List, map}
use Rattle.pz_env.specs.declared.ends.End.{End}
use Rattle.pz_env.specs.devices.Ends.{named, named_by}
use Rattle.pz_env.proofs.Sets.{any_named, number_named, added_named}
use Rattle.pz_env.proofs.ends.EndSet.add.Goals as goal

pub returns-clause-added : goal.returns-clause-added
returns-clause-added c =
    ap (λ (ks : List End). map named_by ks) c.in_ok-number.ensures.keys
    ∙ added_named _ (named c.args.instance.now c.args.port.now) (λ k. refl) c.args.self.now.set.keys (record { instance = c.args.instance; port = c.args.port }) refl

pub returns-clause-number : goal.returns-clause-number
returns-clause-number c = c.in_ok-number.ensures.index ∙ number_named _ (named c.args.instance.now c.args.port.now) (λ k. refl) c.args.self.now.set.keys

pub returns-clause-fresh : goal.returns-clause-fresh
returns-clause-fresh c = c.in_ok-number.ensures.added ∙ ap not (any_named _ (named c.args.instance.now c.args.port.now) (λ k. refl) c.args.self.now.set.keys)
