use Rattle.std.proofs.Common.{◌<◌}
use Rattle.std.proofs.lemmas.Bool.{ltb-true}
use Rattle.rows_term.proofs.Showing.{can_show}
use Rattle.rows_term.proofs.values.can_show.Goals as goal

pub returns-in_default : goal.returns-in_default
returns-in_default g c = λ shown.
    let within : c.args.process < c.processes.result = ltb-true c.args.process c.processes.result shown in
    can_show (g.S.Simulator.simulation c.args.sim.now) c.moment.result c.net.result.now c.args.process c.processes.result c.moment.ensures c.in_default.not-Broken c.net.ensures c.processes.ensures.counted within
