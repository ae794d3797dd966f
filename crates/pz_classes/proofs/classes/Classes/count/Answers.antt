use Rattle.pz_classes.proofs.Belongs.{count_is}
use Rattle.pz_classes.proofs.classes.Classes.count.Goals as goal

pub returns-clause-count : goal.returns-clause-count
returns-clause-count c = λ m are. count_is m c.args.self.now are c.len.result c.len.ensures
