-- Looking methods and starts up in the rows of the classes.
use Rattle.std.specs.Prelude.{ℕ, List, length, Option, slice_get}
use Rattle.std.specs.Option.{option_and_then}
use Rattle.pz_classes_code.specs.StepView.{Tree}
use Rattle.pz_classes_rules.specs.declared.method_id.MethodId.{MethodId}
use Rattle.pz_classes_rules.specs.Ancestors.{followed}
use Rattle.pz_classes_rules.specs.Methods.{Signature, nearest}
use Rattle.pz_classes.specs.devices.Rows.{Row}

abbrev pub up_in : List Row → ℕ → Option ℕ
up_in rows c = option_and_then (λ r. r.parent) (slice_get rows c)

abbrev pub own_in : List Row → Signature → ℕ → Option MethodId
own_in rows s c = option_and_then (λ r. r.methods s) (slice_get rows c)

abbrev pub found_in : List Row → Signature → ℕ → Option MethodId
found_in rows s c = nearest (own_in rows s) (followed (up_in rows) (length rows) c)

abbrev pub start_in : List Row → ℕ → Option Tree
start_in rows c = option_and_then (λ r. r.start) (slice_get rows c)

abbrev pub start_found : List Row → ℕ → Option Tree
start_found rows c = nearest (start_in rows) (followed (up_in rows) (length rows) c)
