-- The last cell is the sum of all.
use Rattle.std.proofs.Common.{◌∙◌, ap}
use Rattle.pz_sim_totals.specs.Sums.{all}
use Rattle.pz_sim_totals.proofs.Cells.{sum_read}
use Rattle.pz_sim_totals.proofs.totals.Totals.all.Goals as goal

pub returns-in-Some : goal.returns-in-Some
returns-in-Some c = sum_read c.self.inside.len c.self.inside.cells.items c.deref.result.now c.self.invariant c.deref.ensures.value c.in-Some.sum.now c.in-Some.ensures.value ∙ ap all c.self.view_is
