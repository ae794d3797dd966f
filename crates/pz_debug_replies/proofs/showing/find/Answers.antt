use Rattle.pz_term_simulator.specs.Simulations.{model_in}
use Rattle.pz_debug_session.specs.Sessions.{stands_in}
use Rattle.pz_debug_replies.proofs.Searched.{none_named}
use Rattle.pz_debug_replies.proofs.showing.find.Goals as goal

pub find_in-requires : goal.find_in-requires
find_in-requires g c = record { first = c.in-Some.ensures.found (model_in (stands_in g.E.Simulator.simulation c.args.session.now)) c.net.ensures }

pub returns-in-None : goal.returns-in-None
returns-in-None g c =
    let m = model_in (stands_in g.E.Simulator.simulation c.args.session.now) in
    none_named m c.args.path.now c.args.name.now (c.in-None.ensures.found m c.net.ensures)
