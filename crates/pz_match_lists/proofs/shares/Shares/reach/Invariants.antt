use Rattle.std.proofs.Common.{◌≡◌, ℕ, length}
use Rattle.pz_match_lists.specs.Shares.{share_at}
use Rattle.pz_match_lists.proofs.shares.Shares.reach.Given as goal

abbrev pub invariant-loop : goal.invariant-loop
invariant-loop l = record {
  long : length l.self-inside.groups.items ≡ l.counter;
  same : (g b : ℕ) → share_at l.self-inside.groups.items g b ≡ share_at l.initial.self-inside.groups.items g b;
}
