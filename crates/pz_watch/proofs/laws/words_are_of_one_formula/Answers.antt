-- They are read from the front.
use Rattle.pz_watch.proofs.FormulaWords.{one_reading}
use Rattle.pz_watch.proofs.laws.words_are_of_one_formula.Goals as goal

pub returns : goal.returns
returns c = one_reading
