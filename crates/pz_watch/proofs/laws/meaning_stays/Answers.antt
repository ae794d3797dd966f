-- One point after the other is added.
use Rattle.pz_watch.proofs.Meanings.{stays_all}
use Rattle.pz_watch.proofs.laws.meaning_stays.Goals as goal

pub returns : goal.returns
returns c = stays_all
