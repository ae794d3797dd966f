use Rattle.pz_env_joined.proofs.Environment.{has_environment}
use Rattle.pz_env_joined.proofs.laws.closed_has_environment.Goals as goal

pub returns : goal.returns
returns c = record {
  law = λ m script limits sound opens accepted few.
      has_environment (record { reached = c.ancestors_are_reached.ensures.law; unfolds = c.calls_unfold.ensures.unfolds }) m script limits (c.sound_systems_fit.ensures.law m sound) sound opens accepted few;
}
