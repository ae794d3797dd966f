use Rattle.std.proofs.Common.{◌≡◌, ◌≤◌, ◌+◌, ◌-◌, ◌++◌, reverse, vec_len, vec_capacity}
use Rattle.pz_state.proofs.values.move_last.Given as goal

abbrev pub invariant-loop-values : goal.invariant-loop-values
invariant-loop-values l = record {
  back : l.values.items ++ reverse l.cut.items ≡ l.initial.values.items;
  room : vec_capacity l.values ≡ vec_capacity l.initial.values;
  within : l.count ≤ vec_len l.values;
  fits : vec_len l.cut + (vec_len l.values - l.count) ≤ vec_capacity l.cut;
}

abbrev pub decreases-loop-values : goal.decreases-loop-values
decreases-loop-values l = vec_len l.values
