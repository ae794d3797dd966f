use Rattle.std.proofs.Common.{◌≡◌, ◌≤◌, ◌+◌, ◌++◌, reverse, vec_len, vec_capacity}
use Rattle.pz_state.proofs.values.restore.Given as goal

abbrev pub invariant-loop-value : goal.invariant-loop-value
invariant-loop-value l = record {
  items : l.values.items ++ reverse l.cut.items ≡ l.initial.values.items ++ reverse l.initial.cut.items;
  room : vec_capacity l.values ≡ vec_capacity l.initial.values;
  fits : vec_len l.values + vec_len l.cut ≤ vec_capacity l.values;
}

abbrev pub decreases-loop-value : goal.decreases-loop-value
decreases-loop-value l = vec_len l.cut
