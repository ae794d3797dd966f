-- What is found at once, or waited for, and then something else.
use Rattle.std.proofs.Common.{◌≡◌, ℕ, suc, ◌<◌, ◌≤◌, Result, Ok, Err, refl, arith}
use Rattle.std.specs.Prelude.{OnOk}
use Rattle.pz_eval_operations.specs.declared.stop.Stop.{Stop}
use Rattle.pz_classes_code.specs.pz_value.declared.value.Value.{Value}
use Rattle.pz_eval_operations.specs.pz_eval_rules.Memories.{Memory}
use Rattle.pz_eval_operations.specs.pz_eval_rules.Answers.{gives}
use Rattle.pz_eval_operations.specs.pz_eval_rules.devices.Computed.{done, Computation, and_then, tick}

module _ (x : Computation Value) (g : Value → Computation Value) (m : Memory) (next : Value → Computation Value) where
  pub found_on : (y : Value) (u u1 : ℕ) → x m u ≡ done (gives y m) u1 → and_then (g y m u1) next ≡ and_then (and_then (x m u) g) next
  found_on y u u1 found = rw found refl

  pub waits_on : (u u1 : ℕ) → u1 ≡ u → and_then (and_then (x m u1) g) next ≡ and_then (and_then (x m u) g) next
  waits_on u u1 e = rw e refl

  -- after one unit
  pub found_counted : (y : Value) (u u1 u2 : ℕ) → u ≡ suc u1 → x m u1 ≡ done (gives y m) u2 → and_then (g y m u2) next ≡ and_then (tick (λ m1 r1. and_then (x m1 r1) g) m u) next
  found_counted y u u1 u2 e found = rw (e, found) refl

  pub waits_counted : (u u1 u2 : ℕ) → u ≡ suc u1 → u2 ≡ u1 → and_then (and_then (x m u2) g) next ≡ and_then (tick (λ m1 r1. and_then (x m1 r1) g) m u) next
  waits_counted u u1 u2 e same = rw (e, same) refl

-- units that are counted
pub fewer : {A : Type 0} (result : Result A Stop) (u u1 u2 : ℕ) → u ≡ suc u1 → u2 < u1 → OnOk result (u2 < u)
fewer (Ok x) u u1 u2 e h = omega (arith, e, h)
fewer (Err stop) u u1 u2 e h = tt

pub one_fewer : {A : Type 0} (result : Result A Stop) (u u1 u2 : ℕ) → u ≡ suc u1 → u2 ≡ u1 → OnOk result (u2 < u)
one_fewer (Ok x) u u1 u2 e h = omega (arith, e, h)
one_fewer (Err stop) u u1 u2 e h = tt

pub fewer_then : {A : Type 0} (result : Result A Stop) (u u1 u2 u3 : ℕ) → u ≡ suc u1 → u2 < u1 → OnOk result (u3 ≤ u2) → OnOk result (u3 < u)
fewer_then (Ok x) u u1 u2 u3 e less h = omega (arith, e, less, h)
fewer_then (Err stop) u u1 u2 u3 e less h = tt
