use Rattle.pz_run_replaying.proofs.Rooms.{waited_room}
use Rattle.pz_run_replaying.proofs.moving.go.Goals as goal

pub returns-in-Wait-clause-room : goal.returns-in-Wait-clause-room
returns-in-Wait-clause-room g c = λ left room.
    waited_room c.rules_are_known.ensures (g.S.Simulator.simulation c.args.sim.now) (g.S.Simulator.simulation c.wait.new.sim) left c.wait.result room c.wait.ensures.passes c.wait.ensures.short
