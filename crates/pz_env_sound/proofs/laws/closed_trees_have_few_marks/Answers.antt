use Rattle.pz_env_sound.proofs.Limits.{few_entries, few_in_entries}
use Rattle.pz_env_sound.proofs.Unrefused.{entry_in}
use Rattle.pz_env_sound.proofs.FewMarks.{closed_has_few}
use Rattle.pz_env_sound.proofs.laws.closed_trees_have_few_marks.Goals as goal

pub returns : goal.returns
returns c = record {
  law = λ m script may.
      closed_has_few m script (c.sound_systems_fit.ensures.law m may.sound) (few_entries script may.written)
      (λ x has. few_in_entries script may.written x.entry (entry_in 1 script x has)) may.few;
}
