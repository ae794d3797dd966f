use Rattle.std.proofs.Common.{ℕ, List}
use Rattle.pz_rules.specs.Runs.{Event}
use Rattle.pz_term_simulator.specs.Simulations.{ClockIs, model_in, clock_in}
use Rattle.pz_term_simulator.specs.devices.Room.{HasRoomFor}
use Rattle.pz_run_playing.specs.devices.Rests.{pending_in}
use Rattle.pz_run_playing.specs.devices.Hearing.{Manner, HasHeard}
use Rattle.pz_run_playing.specs.devices.Going.{HasGone, Passing}
use Rattle.pz_run_playing.proofs.playing.pass_time.Given as goal

abbrev pub invariant-passings : goal.invariant-passings
invariant-passings g l =
    let s = g.S.Simulator.simulation l.initial.sim in
    HasGone s l.all (g.S.Simulator.simulation l.sim)
    × ((manner : Manner) (past : List Event) → HasHeard (model_in s) manner past (clock_in s) l.initial.listener
    → Passing l.until manner past s (g.W.Sink.state l.initial.out) l.passes l.all (g.S.Simulator.simulation l.sim) l.listener (g.W.Sink.state l.out))
    × ClockIs (g.S.Simulator.simulation l.sim) l.clock
    × ((left : ℕ) → HasRoomFor left s → HasRoomFor left (g.S.Simulator.simulation l.sim))

abbrev pub decreases-passings : goal.decreases-passings
decreases-passings g l = pending_in (g.S.Simulator.simulation l.sim)
