-- Which children are active where a node is: by what the node keeps, without asking anything.
use Rattle.std.specs.Prelude.{◌≡◌, ℕ, zero, suc, Bool, true, false, ◌&&◌, ◌||◌, Result, Ok, Err}
use Rattle.pz_clock.specs.Shifts.{is_running}
use Rattle.pz_rules.specs.Settings.{Context}
use Rattle.pz_rules.specs.devices.Found.{tested}
use Rattle.pz_tree_standing.specs.Heads.{Head, leaf, wait, sequence, parallel, select, guarded, frame, abort, idle, handling, shifted}

abbrev pub is_first : ℕ → Bool
is_first zero = true
is_first (suc i) = false

abbrev pub is_second : ℕ → Bool
is_second zero = false
is_second (suc i) = is_first i

-- child i is active, where the node is
abbrev pub reaches : Head → ℕ → Bool
reaches (leaf s) i = false
reaches (wait due at) i = false
reaches (sequence rest) i = is_first i
reaches parallel i = true
reaches select i = true
reaches (guarded e at s) i = is_first i && is_running s
reaches (frame number inputs results) i = is_first i
reaches abort i = is_first i || is_second i
reaches (idle again s) i = is_first i || is_second i
reaches (handling again s) i = is_second i
reaches (shifted s) i = is_first i

-- by how much the clock of this child is behind that of the node, where it is active
abbrev pub first_behind : ℕ → ℕ → ℕ
first_behind by zero = by
first_behind by (suc i) = 0

abbrev pub behind_inside : Head → ℕ → ℕ
behind_inside (guarded e at s) i = s.behind
behind_inside (idle again s) i = first_behind s.behind i
behind_inside (shifted s) i = s.behind
behind_inside h i = 0

abbrev pub is_true : {E : Type 0} → Result Bool E → Bool
is_true (Ok b) = b
is_true (Err e) = false

-- in frame f: the clock behind a guard runs exactly where its test is true
abbrev pub GateRight : Context → ℕ → Head → Type 0
GateRight a f (guarded e at s) = is_running s ≡ is_true (tested a f at e)
GateRight a f h = Unit {0}
