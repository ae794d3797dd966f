-- What a search for the rules of opening answers.
use Rattle.std.specs.Prelude.{Option, Some, None}
use Rattle.pz_classes.specs.pz_syntax.Classes.{ModelTree}
use Rattle.pz_classes.specs.pz_check_violations.declared.violation.Violation.{Violation}
use Rattle.pz_classes_openings.specs.OpeningRules.{Opens, IsOpeningViolation}

-- none where neither rule is violated, else what is told
abbrev pub Tells : ModelTree → Option Violation → Type 0
Tells m None = Opens m
Tells m (Some v) = IsOpeningViolation m v
