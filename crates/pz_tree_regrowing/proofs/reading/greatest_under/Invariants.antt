use Rattle.std.proofs.Common.{◌≡◌, ◌+◌, max, drop}
use Rattle.pz_nodes.specs.Arena.{find}
use Rattle.pz_tree_regrowing.specs.devices.Levels.{all_there}
use Rattle.pz_tree_regrowing.specs.devices.Reading.{highest}
use Rattle.pz_tree_regrowing.proofs.reading.greatest_under.Given as goal

abbrev pub invariant-loop-key : goal.invariant-loop-key
invariant-loop-key g l = record {
  height : max l.greatest (highest (find l.nodes) (drop l.key-index l.keys)) ≡ highest (find l.nodes) l.keys;
  ticks : l.steps + all_there (drop l.key-index l.keys) ≡ l.initial.steps + all_there l.keys;
}
