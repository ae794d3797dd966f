use Rattle.std.proofs.Math.Logic.{∥∥₁_map}
use Rattle.pz_bind.specs.pz_classes.CheckedView.{checked_model}
use Rattle.pz_bind.specs.pz_classes.devices.Rows.{AreClasses}
use Rattle.pz_tree.proofs.tree.Tree.standpoint.Goals as goal

pub returns-clause-known : goal.returns-clause-known
returns-clause-known c = ∥∥₁_map c.classes.ensures.tabled (λ (k : AreClasses (checked_model c.args.checked.now) c.classes.result.now). (checked_model c.args.checked.now, k))
