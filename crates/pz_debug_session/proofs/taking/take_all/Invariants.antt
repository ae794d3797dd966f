use Rattle.pz_debug_session.specs.devices.Leading.{OnTheWay}
use Rattle.pz_debug_session.proofs.taking.take_all.Given as goal

abbrev pub invariant-loop-step : goal.invariant-loop-step
invariant-loop-step g l = OnTheWay l.steps l.step-index (g.E.Simulator.simulation l.initial.engine) (g.E.Simulator.simulation l.engine)
