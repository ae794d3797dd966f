use Rattle.std.proofs.Common.{true, false, ◌∙◌, sym}
use Rattle.std.proofs.Math.Logic.{∥∥₁_map}
use Rattle.pz_sim.proofs.Renewed.{total_is}
use Rattle.pz_sim.proofs.summing.total_in.Goals as goal

pub is_done-requires : goal.is_done-requires
is_done-requires c = record { there = ∥∥₁_map c.requires.fresh (λ x. (x.0, x.1.there)) }

pub returns-then-is_done : goal.returns-then-is_done
returns-then-is_done c = record { total = λ m fresh. total_is m c.args.tree.now true c.summary-summary.result (sym c.if-is_done.true ∙ c.is_done.ensures.done m fresh.there) (c.summary-summary.ensures.summary m fresh) }

pub returns-else-is_done : goal.returns-else-is_done
returns-else-is_done c = record { total = λ m fresh. total_is m c.args.tree.now false c.summary-summary.result (sym c.if-is_done.false ∙ c.is_done.ensures.done m fresh.there) (c.summary-summary.ensures.summary m fresh) }
