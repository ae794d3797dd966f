use Rattle.pz_words.proofs.Asked.{one_job}
use Rattle.pz_words.proofs.words.one_job.Goals as goal

pub returns : goal.returns
returns c = one_job
