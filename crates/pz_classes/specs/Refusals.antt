-- What a refusal says.
use Rattle.pz_classes.specs.declared.error.BuildError.{BuildError}
use Rattle.pz_classes.specs.declared.error.BuildError.TheVariants.{NoMemory, Refused}
use Rattle.pz_check_violations.specs.declared.violation.Violation.{Violation}

-- nothing is said of want of memory
abbrev pub OnRefused : (Violation → Type 0) → BuildError → Type 0
OnRefused P NoMemory = Unit {0}
OnRefused P (Refused v) = P v
