use Rattle.std.proofs.Common.{◌≡◌, drop}
use Rattle.pz_tree_regrowing.specs.devices.Levels.{are_gone}
use Rattle.pz_tree_regrowing.proofs.reading.all_gone.Given as goal

abbrev pub invariant-loop-key : goal.invariant-loop-key
invariant-loop-key l = are_gone (drop l.key-index l.keys) ≡ are_gone l.keys
