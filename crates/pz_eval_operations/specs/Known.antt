-- The classes of a model.
use Rattle.pz_classes_code.specs.pz_syntax.Classes.{ModelTree}
use Rattle.pz_classes.specs.declared.classes.Classes.{Classes}
use Rattle.pz_classes.specs.devices.Rows.{AreClasses}

-- these are the classes of some model, as a bare fact
abbrev pub AreKnown : Classes → Type 0
AreKnown classes = ∥ ((m : ModelTree) × AreClasses m classes) ∥₁
