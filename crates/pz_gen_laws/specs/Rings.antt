-- Every ring is a model, and its text is short.
use Rattle.std.specs.Prelude.{ℕ, ◌≤◌, ◌<◌, ◌^◌, length}
use Rattle.pz_classes_rules.specs.pz_syntax.Classes.{ModelTree}
use Rattle.pz_gen.specs.Ring as ring
use Rattle.pz_run_reading.specs.Openings.{IsOpenModelOf}

-- the text of a ring of 2 to 1000 stations is that of a model that violates no rule, C23 and C24 included
abbrev pub RingsAreModels : Type 0
RingsAreModels = (n : ℕ) → 2 ≤ n → n ≤ 1000 → (m : ModelTree) × IsOpenModelOf (ring.model n) m

-- the text of a ring of at most 1000 stations has fewer than 2^17 bytes
abbrev pub RingsAreShort : Type 0
RingsAreShort = (n : ℕ) → n ≤ 1000 → length (ring.model n) < 2 ^ 17
