use Rattle.std.proofs.Common.{ℕ, take}
use Rattle.std.specs.Prelude.{Contains}
use Rattle.pz_match_lists.proofs.numbers.Numbers.add_all.Given as goal

abbrev pub invariant-loop-number : goal.invariant-loop-number
invariant-loop-number l = record {
  has : (n : ℕ) → Contains (take l.number-index l.numbers) n → Contains l.self n;
  keeps : (n : ℕ) → Contains l.initial.self n → Contains l.self n;
}
