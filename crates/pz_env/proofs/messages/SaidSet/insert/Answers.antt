use Rattle.std.proofs.Common.{refl, ap, ◌∙◌, not, List, map}
use Rattle.pz_env.specs.declared.messages.Said.{Said}
use Rattle.pz_env.specs.devices.Said.{is_said, said_by}
use Rattle.pz_env.proofs.Keys.{any_key, key_added}
use Rattle.pz_env.proofs.messages.SaidSet.insert.Goals as goal

pub returns-clause-added : goal.returns-clause-added
returns-clause-added c =
    ap (λ (ks : List Said). map said_by ks) c.in_ok-_number.ensures.keys
    ∙ key_added said_by is_said _ (said_by c.args.key) (λ k. refl) c.args.self.now.set.keys c.args.key refl

pub returns-clause-fresh : goal.returns-clause-fresh
returns-clause-fresh c = c.in_ok-_number.ensures.added ∙ ap not (any_key said_by is_said _ (said_by c.args.key) (λ k. refl) c.args.self.now.set.keys)
