use Rattle.std.proofs.Common.{◌≡◌, ◌++◌, length, map}
use Rattle.std.specs.Vec.Iter.{into_iter_items, into_iter_len}
use Rattle.pz_term_enabled.specs.devices.Adding.{action_of}
use Rattle.pz_term_enabled.proofs.adding.add_actions.Given as goal

abbrev pub invariant-loop-doing : goal.invariant-loop-doing
invariant-loop-doing l = record {
  counted : into_iter_len l.doing-iterator ≡ length (into_iter_items l.doing-iterator);
  added : l.actions.items ++ map (action_of l.process) (into_iter_items l.doing-iterator) ≡ l.initial.actions.items ++ map (action_of l.process) l.fn.doings.items;
}
