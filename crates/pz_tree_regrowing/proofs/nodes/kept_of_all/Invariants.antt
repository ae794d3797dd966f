use Rattle.std.proofs.Common.{◌≡◌, ◌+◌, drop}
use Rattle.pz_nodes.specs.Arena.{find}
use Rattle.pz_tree_nodes.specs.Keeping.{joined}
use Rattle.pz_tree_regrowing.specs.devices.Keeping.{kept_in_all}
use Rattle.pz_tree_regrowing.specs.devices.Levels.{all_there}
use Rattle.pz_tree_regrowing.proofs.nodes.kept_of_all.Given as goal

abbrev pub invariant-loop-key : goal.invariant-loop-key
invariant-loop-key g l = record {
  kept : joined l.all (kept_in_all (find l.nodes) (drop l.key-index l.keys)) ≡ kept_in_all (find l.nodes) l.keys;
  ticks : l.steps + all_there (drop l.key-index l.keys) ≡ l.initial.steps + all_there l.keys;
}
