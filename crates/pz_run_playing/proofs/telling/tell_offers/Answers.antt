use Rattle.std.proofs.Common.{[]}
use Rattle.pz_rules.specs.declared.moment.Moment.TheVariants.{Actions}
use Rattle.pz_term_simulator.specs.Simulations.{none}
use Rattle.pz_run_playing.proofs.telling.tell_offers.Goals as goal

pub returns-in-Actions : goal.returns-in-Actions
returns-in-Actions g c =
    let there = c.rules_are_known.ensures.offers_there (g.S.Simulator.simulation c.args.sim.now) c.in-Actions.offers c.in-Actions.ensures in
    (there.0, there.1, c.tell_each.ensures there.0 there.1)

pub returns-in_default : goal.returns-in_default
returns-in_default g c =
    let s = g.S.Simulator.simulation c.args.sim.now in
    let known = c.rules_are_known.ensures in
    ([], none s (λ n now. c.in_default.not-Actions n (known.one_moment_of s c.moment.result (Actions n) c.moment.ensures now)), known.nothing (g.W.Sink.state c.args.out.now))
