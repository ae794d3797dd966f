use Rattle.std.proofs.Common.{◌+◌, ◌*◌, length}
use Rattle.pz_tree_regrowing.proofs.outlining.+outlines.Given as goal

abbrev pub decreases-outline_bare : goal.decreases-outline_bare
decreases-outline_bare g l = 2 * length l.place.now

abbrev pub decreases-outline_after : goal.decreases-outline_after
decreases-outline_after g l = 2 * length l.place.now + 1
