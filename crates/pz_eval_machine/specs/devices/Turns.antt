-- Turns of a `while` that are done at once.
use Rattle.std.specs.Prelude.{◌≡◌, ◌<◌, ◌≤◌, ℕ, suc, List, Bool, true, false, Option, Some, None}
use Rattle.std.specs.Borrow.{Bor}
use Rattle.pz_classes_code.specs.pz_syntax.declared.tokens.Pos.{Pos}
use Rattle.pz_classes_code.specs.pz_syntax.Classes.{ModelTree}
use Rattle.pz_classes_code.specs.pz_value.declared.value.Value.TheVariants.{Bool as Boolean, Nil}
use Rattle.pz_classes_code.specs.declared.code.Code.{Code}
use Rattle.pz_classes_code.specs.CodeView.{Tree, list_view}
use Rattle.pz_eval_operations.specs.pz_eval_rules.Memories.{Memory, Location}
use Rattle.pz_eval_operations.specs.pz_eval_rules.Answers.{gives}
use Rattle.pz_eval_operations.specs.pz_eval_rules.Steps.{Codes}
use Rattle.pz_eval_operations.specs.pz_eval_rules.devices.Computed.{done, and_then, sequence, evaluated}
use Rattle.pz_eval_machine.specs.devices.Tasks.{turning}

-- after one unit, the test is true with so many units left of these; or nothing is counted
abbrev pub Begins : ℕ → Location → Memory → Tree → ℕ → ℕ → Bool → Type 0
Begins d p m t u u1 true = (r : ℕ) × (u ≡ suc r) × (u1 < u) × ((model : ModelTree) (now : ℕ) → evaluated model now d p t m r ≡ done (gives (Boolean true) m) u1)
Begins d p m t u u1 false = u1 ≡ u

-- the turns to come are the same; or the rest of a body, and then those
abbrev pub Turned : ModelTree → ℕ → ℕ → Location → Pos → Tree → Codes → Memory → ℕ → Memory → ℕ → Option (Bor (List Code)) → Type 0
Turned model now d p at t ts m u m1 u1 None = turning model now d p at t ts m1 u1 ≡ turning model now d p at t ts m u
Turned model now d p at t ts m u m1 u1 (Some left) =
    and_then (sequence model now (evaluated model now d) p Nil (list_view left.now) m1 u1) (λ _. turning model now d p at t ts) ≡ turning model now d p at t ts m u

-- within a turn fewer units are left
abbrev pub Fewer : ℕ → ℕ → Option (Bor (List Code)) → Type 0
Fewer u u1 None = u1 ≤ u
Fewer u u1 (Some left) = u1 < u
