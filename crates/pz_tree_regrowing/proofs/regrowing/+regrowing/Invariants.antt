use Rattle.std.proofs.Common.{◌+◌, ◌*◌, length}
use Rattle.pz_tree_regrowing.proofs.regrowing.+regrowing.Given as goal

abbrev pub decreases-regrow_bare : goal.decreases-regrow_bare
decreases-regrow_bare g l = 2 * length l.place.now

abbrev pub decreases-regrow_part : goal.decreases-regrow_part
decreases-regrow_part g l = 2 * length l.place.now + 1
