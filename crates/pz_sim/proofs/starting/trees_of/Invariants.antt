use Rattle.std.proofs.Common.{◌≡◌, length}
use Rattle.std.specs.Vec.Iter.{into_iter_items, into_iter_len}
use Rattle.pz_bind.specs.pz_classes.CheckedView.{checked_model}
use Rattle.pz_tree.specs.pz_term_processes.Standing.{setting_of}
use Rattle.pz_sim.proofs.Begun.{Planted}
use Rattle.pz_sim.proofs.starting.trees_of.Given as goal

abbrev pub invariant-loop-process : goal.invariant-loop-process
invariant-loop-process l = record {
  counted : into_iter_len l.process-iterator ≡ length (into_iter_items l.process-iterator);
  planted : Planted (setting_of (checked_model l.checked) l.limits) l.fn.processes.items l.trees.items (into_iter_items l.process-iterator);
}
