use Rattle.pz_env_joined.proofs.Rules.{same_rules}
use Rattle.pz_env_joined.proofs.laws.closed_has_same_rules.Goals as goal

pub returns : goal.returns
returns c = record {
  law = λ m script sound opens accepted.
      same_rules (record { reached = c.ancestors_are_reached.ensures.law; unfolds = c.calls_unfold.ensures.unfolds }) m script (c.sound_systems_fit.ensures.law m sound) sound opens accepted;
}
