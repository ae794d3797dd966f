use Rattle.std.proofs.Common.{◌≡◌, ◌≤◌, ◌+◌, ◌-◌, ◌++◌, vec_len, vec_capacity}
use Rattle.pz_state.specs.States.{nils}
use Rattle.pz_state.proofs.values.push_nils.Given as goal

abbrev pub invariant-loop-done : goal.invariant-loop-done
invariant-loop-done l = record {
  items : l.values.items ≡ l.initial.values.items ++ nils l._done;
  room : vec_capacity l.values ≡ vec_capacity l.initial.values;
  fits : vec_len l.values + (l.count - l._done) ≤ vec_capacity l.values;
}
