use Rattle.std.proofs.Common.{◌≡◌, ℕ, length}
use Rattle.pz_match_lists.specs.Increasing.{list_at}
use Rattle.pz_match_lists.proofs.lists.Lists.reach.Given as goal

abbrev pub invariant-loop : goal.invariant-loop
invariant-loop l = record {
  long : length l.self-inside.lists.items ≡ l.counter;
  same : (k : ℕ) → list_at l.self-inside.lists.items k ≡ list_at l.initial.self-inside.lists.items k;
}
