use Rattle.pz_classes.proofs.RowLookups.{entry_is}
use Rattle.pz_classes.proofs.classes.Classes.entry.Goals as goal

pub returns : goal.returns
returns c = λ m are. entry_is m c.args.self.now.entries c.index-as_slice-class.result c.args.class.0 are.rows c.requires (rw c.as_slice.ensures at c.index-as_slice-class.is)
