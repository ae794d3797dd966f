use Rattle.std.proofs.Common.{length, arith}
use Rattle.pz_debug_session.specs.Sessions.{stands_in}
use Rattle.pz_debug_session.proofs.Placed.{time_can}
use Rattle.pz_debug_session.proofs.session.Session.pass.Goals as goal

pub take-requires : goal.take-requires
take-requires g c =
    let steps = c.args.self.now.steps in
    time_can (stands_in g.E.Simulator.simulation c.args.self.now) c.moment.result c.in-Time.field-0 (length steps.items) c.in-Time.is c.moment.ensures (omega (arith, steps.ok.0, steps.ok.1, steps.small)) c.requires.low
