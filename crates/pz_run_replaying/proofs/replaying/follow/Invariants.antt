use Rattle.std.proofs.Common.{length}
use Rattle.pz_term_simulator.specs.devices.Room.{HasRoomFor}
use Rattle.pz_run_replaying.specs.devices.Progress.{Going}
use Rattle.pz_run_replaying.proofs.replaying.follow.Given as goal

abbrev pub invariant-lines : goal.invariant-lines
invariant-lines g l =
    Going (g.S.Simulator.simulation l.initial.sim) l.initial.rest l.initial.number (g.W.Sink.state l.initial.out) (g.S.Simulator.simulation l.sim) l.rest l.number (g.W.Sink.state l.out)
    × HasRoomFor (length l.rest) (g.S.Simulator.simulation l.sim)

abbrev pub decreases-lines : goal.decreases-lines
decreases-lines g l = length l.rest
