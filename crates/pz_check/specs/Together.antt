-- Rules that are asked together, and what a refusal says.
use Rattle.std.specs.Prelude.{◌⊎◌}
use Rattle.pz_classes.specs.pz_syntax.Classes.{ModelTree}
use Rattle.pz_classes.specs.pz_check_violations.declared.violation.Violation.{Violation}
use Rattle.pz_classes.specs.pz_classes_rules.InstanceRules.{BreaksC15}
use Rattle.pz_classes.specs.pz_classes_rules.SizeRules.{BreaksC19, BreaksC20}
use Rattle.pz_check.specs.declared.error.CheckError.{CheckError}
use Rattle.pz_check.specs.declared.error.CheckError.TheVariants.{NoMemory, Refused}

-- the rules on what stands in what, and on the system
abbrev pub BreaksSize : ModelTree → Violation → Type 0
BreaksSize m v = (BreaksC15 m v ⊎ BreaksC20 m v) ⊎ BreaksC19 m v

-- nothing is said of want of memory
abbrev pub OnRefused : (Violation → Type 0) → CheckError → Type 0
OnRefused P NoMemory = Unit {0}
OnRefused P (Refused v) = P v
