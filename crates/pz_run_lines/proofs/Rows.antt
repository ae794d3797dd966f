-- Lines, computed from the definitions.
use Rattle.std.proofs.Common.{◌≡◌, refl, codes}
use Rattle.std.specs.Fmt.{digits}
use Rattle.pz_check_violations.specs.Order.{violation}
use Rattle.pz_run_reading.specs.declared.refusal.Refusal.TheVariants.{Syntax, Violates}
use Rattle.pz_run_lines.specs.Lines.{read_fault_line, too_long_line, watch_refused_line, script_refused_line, accepted_line, model_refused_line}

no_file : read_fault_line (codes "m") ≡ codes "read fault: m\n"
no_file = refl

long_file : too_long_line (codes "models/m") ≡ codes "too long: models/m\n"
long_file = refl

no_watches : watch_refused_line 101 ≡ codes "watch refused line 101\n"
unfolding digits
no_watches = refl

no_script : script_refused_line 1 ≡ codes "script refused line 1\n"
unfolding digits
no_script = refl

-- seven processes in two clusters
seven : accepted_line 7 4 ≡ codes "accepted 7 processes 4 wires\n"
unfolding digits
seven = refl

-- an empty text
empty : model_refused_line (Syntax (record { line = 1; column = 1 })) ≡ codes "model refused: Syntax 1:1\n"
unfolding digits
empty = refl

-- an instance of a class that is not there
no_class : model_refused_line (Violates (violation 13 (record { line = 1; column = 22 }))) ≡ codes "model refused: C13 1:22\n"
unfolding digits
no_class = refl
