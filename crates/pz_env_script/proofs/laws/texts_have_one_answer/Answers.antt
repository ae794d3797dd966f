-- Lines are cut in one way, and each is of one entry.
use Rattle.pz_env_script.proofs.Texts.{one_script, never_both, one_line}
use Rattle.pz_env_script.proofs.ScriptLines.{has_an_answer}
use Rattle.pz_env_script.proofs.laws.texts_have_one_answer.Goals as goal

pub returns-clause-script : goal.returns-clause-script
returns-clause-script c = one_script

pub returns-clause-never_both : goal.returns-clause-never_both
returns-clause-never_both c = never_both

pub returns-clause-line : goal.returns-clause-line
returns-clause-line c = one_line

pub returns-clause-some : goal.returns-clause-some
returns-clause-some c = has_an_answer
