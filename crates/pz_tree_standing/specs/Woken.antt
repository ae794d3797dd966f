-- What a passing of time may wake: active delays that have not begun, active parts that name the clock, and active
-- delays that are over by then.
use Rattle.std.specs.Prelude.{◌<◌, ℕ, Bool, true, false, ◌||◌, List, [], ◌∷◌, Option, Some, None}
use Rattle.pz_rules.specs.pz_syntax.Statements.{delay, send, receive}
use Rattle.pz_rules.specs.pz_eval_rules.Clocks.{names_clock, part_names_clock}
use Rattle.pz_rules.specs.Terms.{Code, Step, Term, leaf, guarded}
use Rattle.pz_rules.specs.Settings.{Context}
use Rattle.pz_rules.specs.devices.Walk.{ActivePart, active_parts}

abbrev pub any_part : (Term → Bool) → List ActivePart → Bool
any_part q [] = false
any_part q (p ∷ ps) = q p.part || any_part q ps

abbrev pub statement_begins : Step → Bool
statement_begins (delay at e) = true
statement_begins s = false

abbrev pub begins : Term → Bool
begins (leaf s) = statement_begins s
begins t = false

-- in frame f: an active delay has not begun
abbrev pub starts : Context → ℕ → Term → Bool
starts a f t = any_part begins (active_parts a f t)

abbrev pub condition_names_clock : Option Code → Bool
condition_names_clock None = false
condition_names_clock (Some e) = names_clock e

-- the test of a guard, the time of a delay that has not begun, the arguments of a send, the condition of a receive
abbrev pub statement_names_clock : Step → Bool
statement_names_clock (delay at e) = names_clock e
statement_names_clock (send at port name args after) = part_names_clock args
statement_names_clock (receive at port name into condition after) = condition_names_clock condition
statement_names_clock s = false

abbrev pub is_clocked : Term → Bool
is_clocked (leaf s) = statement_names_clock s
is_clocked (guarded test at t) = names_clock test
is_clocked t = false

-- in frame f: an active part names the clock
abbrev pub clocked : Context → ℕ → Term → Bool
clocked a f t = any_part is_clocked (active_parts a f t)

-- it comes after this moment, if there is one
abbrev pub IsAfter : ℕ → Option ℕ → Type 0
IsAfter c None = Unit {0}
IsAfter c (Some due) = c < due
