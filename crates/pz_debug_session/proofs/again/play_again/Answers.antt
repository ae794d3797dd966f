use Rattle.pz_term_simulator.specs.Simulations.{setting_in}
use Rattle.pz_debug_session.proofs.Placed.{started_leads, started_placed, started_whole, started_clock}
use Rattle.pz_debug_session.proofs.again.play_again.Goals as goal

pub take_all-requires-clause-whole : goal.take_all-requires-clause-whole
take_all-requires-clause-whole g c =
    started_whole (setting_in (g.E.Simulator.simulation c.args.engine.now)) (g.E.Simulator.simulation c.in_ok-again.again) c.in_ok-again.ensures

pub take_all-requires-clause-start : goal.take_all-requires-clause-start
take_all-requires-clause-start g c =
    started_clock (setting_in (g.E.Simulator.simulation c.args.engine.now)) (g.E.Simulator.simulation c.in_ok-again.again) c.in_ok-again.ensures

pub take_all-requires-clause-leads : goal.take_all-requires-clause-leads
take_all-requires-clause-leads g c = (
  c.requires.leads.0,
  started_leads c.rules_are_known.ensures (setting_in (g.E.Simulator.simulation c.args.engine.now)) (g.E.Simulator.simulation c.in_ok-again.again) c.requires.leads.0 c.args.steps.now
      c.in_ok-again.ensures c.requires.leads.1,
)

pub returns : goal.returns
returns g c = record {
  after =
      started_placed (setting_in (g.E.Simulator.simulation c.args.engine.now)) (g.E.Simulator.simulation c.in_ok-again.again) (g.E.Simulator.simulation c.take_all.new.engine) c.args.steps.now
      c.in_ok-again.ensures c.in_ok-take_all.ensures.leads;
  low = c.in_ok-take_all.ensures.low;
}
