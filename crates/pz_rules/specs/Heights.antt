-- Configurations in which no term is too high.
use Rattle.std.specs.Prelude.{◌≡◌, ◌≤◌, ℕ, Some, slice_get}
use Rattle.pz_rules.specs.Terms.{height}
use Rattle.pz_rules.specs.Settings.{Setting, Process}
use Rattle.pz_rules.specs.Configurations.{Config}

abbrev pub IsLow : Setting → Config → Type 0
IsLow setting c = (i : ℕ) (p : Process) → slice_get c.processes i ≡ Some p → height p.term ≤ setting.limits.height
