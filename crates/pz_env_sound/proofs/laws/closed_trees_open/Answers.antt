use Rattle.pz_env_sound.proofs.Limits.{few_entries}
use Rattle.pz_env_sound.proofs.Unrefused.{unrefused}
use Rattle.pz_env_sound.proofs.ClosedSound.{closed_opens}
use Rattle.pz_env_sound.proofs.laws.closed_trees_open.Goals as goal

pub returns : goal.returns
returns c = record {
  law = λ m script may.
      closed_opens m script may.sound c.ancestors_are_reached.ensures.law c.sound_systems_fit.ensures.law
      (unrefused m c.refusals_are_computed.ensures script may.unrefused) (few_entries script may.written) may.opens;
}
