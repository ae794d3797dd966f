use Rattle.std.proofs.Common.{◌≡◌, ◌++◌, drop}
use Rattle.pz_tree_regrowing.specs.pz_tree_nodes.Dropping.{numbers}
use Rattle.pz_tree_acting.proofs.closing.numbers_of.Given as goal

abbrev pub invariant-loop-frame : goal.invariant-loop-frame
invariant-loop-frame l = l.listed.items ++ numbers (drop l.frame-index l.frames) ≡ numbers l.frames
