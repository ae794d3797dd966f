-- Units that are counted.
use Rattle.std.proofs.Common.{◌≡◌, ℕ, suc, ◌<◌, Result, Ok, Err, arith}
use Rattle.pz_classes_code.specs.pz_value.declared.value.Value.{Value}
use Rattle.pz_eval_rules.specs.Memories.{Memory}
use Rattle.pz_eval_rules.specs.Answers.{Answer}
use Rattle.pz_eval_operations.specs.declared.stop.Stop.{Stop}
use Rattle.pz_eval_operations.specs.declared.stop.Stop.TheVariants as stop
use Rattle.pz_eval_operations.specs.devices.Telling.{Ticks, Tells, Counts}
use Rattle.std.specs.Prelude.{OnOk}

pub tells_counts : (v : Result Value Stop) (a : Answer Value) (m : Memory) (u r : ℕ) → u ≡ suc r → Tells v a m → Counts v a m u r
tells_counts (Ok y) a m u r e h = (e, h)
tells_counts (Err stop.NoMemory) a m u r e h = tt
tells_counts (Err stop.Spent) a m u r e h = absurd h
tells_counts (Err (stop.Fault kind at)) a m u r e h = (e, h)

pub tick_counts : (e : Stop) (a : Answer Value) (m : Memory) (u r : ℕ) → Ticks (Err e) u r → Counts (Err e) a m u r
tick_counts stop.NoMemory a m u r h = absurd h
tick_counts stop.Spent a m u r h = h
tick_counts (stop.Fault kind at) a m u r h = absurd h

pub counted : {A : Type 0} (result : Result A Stop) (u u1 : ℕ) → u ≡ suc u1 → OnOk result (u1 < u)
counted (Ok x) u u1 e = omega (arith, e)
counted (Err stop) u u1 e = tt
