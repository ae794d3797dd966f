use Rattle.std.proofs.Common.{◌≡◌, ◌++◌, ◌-◌, length}
use Rattle.pz_state.specs.States.{nils}
use Rattle.pz_eval_machine.proofs.calling.fill_up.Given as goal

abbrev pub invariant-loop-values : goal.invariant-loop-values
invariant-loop-values l = l.values.items ++ nils (l.count - length l.values.items) ≡ l.fn.values.items ++ nils (l.count - length l.fn.values.items)

abbrev pub decreases-loop-values : goal.decreases-loop-values
decreases-loop-values l = l.count - length l.values.items
