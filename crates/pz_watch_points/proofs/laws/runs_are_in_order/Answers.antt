use Rattle.pz_watch_points.proofs.Order.{runs_in_order, runs_within, runs_onward}
use Rattle.pz_watch_points.proofs.laws.runs_are_in_order.Goals as goal

pub returns : goal.returns
returns c = record { order = runs_in_order; within = runs_within; onward = runs_onward }
