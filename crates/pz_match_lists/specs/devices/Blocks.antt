-- The sums of 64 numbers each.
use Rattle.std.specs.Prelude.{◌≡◌, ◌<◌, ◌≤◌, ◌+◌, ◌*◌, ℕ, List, length, take, sum, slice_index}

pub record AreSummed (numbers blocks : List ℕ) (total : ℕ) : Type 0 where
  pub covered : length numbers ≤ 64 * length blocks
  pub summed : (k : ℕ) → k < length blocks → sum (take (64 * k) numbers) + slice_index blocks k ≡ sum (take (64 * k + 64) numbers)
  pub total_is : total ≡ sum numbers
