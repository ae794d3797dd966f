-- How totals grow, as a device of the proofs.
use Rattle.std.specs.Prelude.{◌≡◌, ◌<◌, ◌≤◌, ◌+◌, ◌-◌, ℕ, Bool, true, false, List, length, min, nat_lt, if◌then◌else◌}
use Rattle.std.specs.List.{sum_by}
use Rattle.std.proofs.Math.ListN.{set}
use Rattle.pz_check_calls.specs.declared.graph.Method.{Method}
use Rattle.pz_check_calls.specs.Calls.{begun_by, statements_of, opened_in, total_in}

-- what the statements and calls of a method come to by these totals
abbrev pub next : List Method → List ℕ → ℕ → ℕ
next ms ts k = min (statements_of ms k + sum_by (λ x. total_in ts x.method) (begun_by ms k)) 1000001

abbrev pub raised : List Method → List ℕ → ℕ → List ℕ
raised ms ts k = if nat_lt (total_in ts k) (next ms ts k) then set ts k (next ms ts k) else ts

-- no total is more than what calls give that are followed to some depth
abbrev pub IsReached : List Method → List ℕ → Type 0
IsReached ms ts = (depth : ℕ) × ((k : ℕ) → total_in ts k ≤ opened_in ms depth k)

-- how far the totals can grow
abbrev pub room : List ℕ → ℕ
room ts = sum_by (λ t. 1000001 - t) ts

-- what raising makes of totals, where the first so many methods had their turn
pub record Raises (ms : List Method) (old new : List ℕ) (grew : Bool) (count : ℕ) : Type 0 where
  pub sized : length new ≡ length ms
  pub reached : IsReached ms old → IsReached ms new
  pub no_more : room new ≤ room old
  pub less : grew ≡ true → room new < room old
  pub same : grew ≡ false → new ≡ old
  pub stable : grew ≡ false → (k : ℕ) → k < count → next ms old k ≤ total_in old k
