-- Statements and bodies that are merely equal are equal.
use Rattle.std.specs.Prelude.{Option}
use Rattle.pz_bind_rules.specs.pz_classes_rules.Bodies.{BodyTree}
use Rattle.pz_rules.specs.Terms.{Step}

abbrev pub StatementsAreASet : Type 0
StatementsAreASet = IsSet (Option Step)

abbrev pub BodiesAreASet : Type 0
BodiesAreASet = IsSet (Option BodyTree)
