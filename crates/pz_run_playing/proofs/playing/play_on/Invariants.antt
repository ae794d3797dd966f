use Rattle.std.proofs.Common.{◌-◌}
use Rattle.pz_run_playing.specs.devices.Going.{Course}
use Rattle.pz_run_playing.proofs.playing.play_on.Given as goal

abbrev pub invariant-actions : goal.invariant-actions
invariant-actions g l =
    Course l.limits l.initial.chooser l.initial.listener (g.S.Simulator.simulation l.initial.sim) (g.W.Sink.state l.initial.out) l.chooser l.actions l.passes (g.S.Simulator.simulation l.sim) l.listener (g.W.Sink.state l.out)

abbrev pub decreases-actions : goal.decreases-actions
decreases-actions g l = l.limits.steps - l.actions
