use Rattle.std.proofs.Common.{◌+◌, ◌*◌, length}
use Rattle.pz_term_residual.proofs.residual.+outlines.Given as goal

abbrev pub decreases-outline_after : goal.decreases-outline_after
decreases-outline_after l = 3 * length l.place.now

abbrev pub decreases-outline_inside : goal.decreases-outline_inside
decreases-outline_inside l = 3 * length l.inner.now + 2

abbrev pub decreases-outline_among : goal.decreases-outline_among
decreases-outline_among l = 3 * length l.inner.now + 1

abbrev pub decreases-outline_abort : goal.decreases-outline_abort
decreases-outline_abort l = 3 * length l.inner.now + 1

abbrev pub decreases-outline_idle : goal.decreases-outline_idle
decreases-outline_idle l = 3 * length l.inner.now + 1
