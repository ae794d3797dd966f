use Rattle.std.proofs.Common.{refl}
use Rattle.pz_words.specs.devices.Reading.{job_in}
use Rattle.pz_words.proofs.Asked.{reads}
use Rattle.pz_words.proofs.words.job_is_computed.Goals as goal

pub returns : goal.returns
returns c = λ words. reads words (job_in words) refl
