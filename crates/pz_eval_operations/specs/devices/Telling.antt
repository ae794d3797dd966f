-- What single operations tell, and units that they count.
use Rattle.std.specs.Prelude.{◌≡◌, ℕ, suc, Result, Ok, Err}
use Rattle.pz_classes_code.specs.pz_value.declared.value.Value.{Value}
use Rattle.pz_eval_rules.specs.Memories.{Memory}
use Rattle.pz_eval_rules.specs.Answers.{Answer, fault, gives, stops}
use Rattle.pz_eval_operations.specs.declared.stop.Stop.{Stop}
use Rattle.pz_eval_operations.specs.declared.stop.Stop.TheVariants as stop

-- one unit is counted, if there is one
abbrev pub Ticks : Result Unit Stop → ℕ → ℕ → Type 0
Ticks (Ok x) before after = before ≡ suc after
Ticks (Err stop.NoMemory) before after = ⊥
Ticks (Err stop.Spent) before after = before ≡ 0
Ticks (Err (stop.Fault kind at)) before after = ⊥

-- a value is answered, and this is left behind; or what is wrong
abbrev pub Tells : Result Value Stop → Answer Value → Memory → Type 0
Tells (Ok y) a m = a ≡ gives y m
Tells (Err stop.NoMemory) a m = Unit {0}
Tells (Err stop.Spent) a m = ⊥
Tells (Err (stop.Fault kind at)) a m = a ≡ stops (fault kind at)

-- the same, where one unit is counted first
abbrev pub Counts : Result Value Stop → Answer Value → Memory → ℕ → ℕ → Type 0
Counts (Ok y) a m u r = (u ≡ suc r) × (a ≡ gives y m)
Counts (Err stop.NoMemory) a m u r = Unit {0}
Counts (Err stop.Spent) a m u r = u ≡ 0
Counts (Err (stop.Fault kind at)) a m u r = (u ≡ suc r) × (a ≡ stops (fault kind at))
