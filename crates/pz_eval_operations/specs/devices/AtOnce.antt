-- What is found at once, and changes nothing.
use Rattle.std.specs.Prelude.{◌≡◌, ◌<◌, ℕ, suc, Option, Some, None}
use Rattle.pz_classes_code.specs.pz_syntax.Classes.{ModelTree}
use Rattle.pz_classes_code.specs.pz_value.declared.value.Value.{Value}
use Rattle.pz_classes_code.specs.CodeView.{Tree}
use Rattle.pz_eval_rules.specs.Memories.{Memory, Location}
use Rattle.pz_eval_rules.specs.Answers.{gives}
use Rattle.pz_eval_rules.specs.devices.Computed.{done, evaluated}

-- one deep, and with one unit, an expression comes to this value
abbrev pub IsWorth : Location → Memory → Tree → Value → Type 0
IsWorth p m t y = (model : ModelTree) (now d r : ℕ) → evaluated model now (suc d) p t m (suc r) ≡ done (gives y m) r

-- two deep, and with three units
abbrev pub IsWorthThree : Location → Memory → Tree → Value → Type 0
IsWorthThree p m t y = (model : ModelTree) (now d r : ℕ) → evaluated model now (suc (suc d)) p t m (suc (suc (suc r))) ≡ done (gives y m) r

-- within this depth an expression comes to a value, and so many units are left of these; or it is not
-- tried, and all are left
abbrev pub Attempt : ℕ → Location → Memory → Tree → ℕ → ℕ → Option Value → Type 0
Attempt d p m t u u1 None = u1 ≡ u
Attempt d p m t u u1 (Some y) = (u1 < u) × ((model : ModelTree) (now : ℕ) → evaluated model now d p t m u ≡ done (gives y m) u1)

-- Within this depth an assignment is done: it has this value, what is left behind, and so many units of
-- these. Or it is not tried, and nothing has changed.
abbrev pub Assigned : ℕ → Location → Tree → Memory → ℕ → Memory → ℕ → Option Value → Type 0
Assigned d p t m u m1 u1 None = (m1 ≡ m) × (u1 ≡ u)
Assigned d p t m u m1 u1 (Some y) = (u1 < u) × ((model : ModelTree) (now : ℕ) → evaluated model now d p t m u ≡ done (gives y m1) u1)
