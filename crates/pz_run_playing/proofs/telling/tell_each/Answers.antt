use Rattle.std.proofs.Common.{[], refl, arith}
use Rattle.pz_term_simulator.specs.Simulations.{model_in}
use Rattle.pz_run_playing.proofs.Told.{nth_offer, all_told, offer_told, offer_cut}
use Rattle.pz_run_playing.proofs.Written.{halted_so}
use Rattle.pz_run_playing.proofs.telling.tell_each.Goals as goal

pub tell_offer-requires : goal.tell_offer-requires
tell_offer-requires g c = (c.args.offers, c.requires, c.loop-number-test.true)

pub loop-number-init : goal.loop-number-init
loop-number-init g c = λ actions are. ([], c.rules_are_known.ensures.nothing (g.W.Sink.state c.args.out.now), refl)

pub returns-in_err-tell_offer : goal.returns-in_err-tell_offer
returns-in_err-tell_offer g c = λ actions are.
    let s = g.S.Simulator.simulation c.args.sim.now in
    let known = c.rules_are_known.ensures in
    let x = c.loop-number.invariant actions are in
    let y = nth_offer known s c.args.offers c.loop-number.number actions c.requires are c.loop-number-test.true in
    rw (halted_so c.from_residual.result c.in_err-tell_offer.field-0.0 c.from_residual.ensures.1)
    (offer_cut (model_in s) c.loop-number.number y.0 actions y.1 known _ _ _ x.0 x.1 x.2 c.in_err-tell_offer.field-0.0 (c.in_err-tell_offer.ensures y.0 y.2))

pub loop-number-preserved : goal.loop-number-preserved
loop-number-preserved g c = λ actions are.
    let s = g.S.Simulator.simulation c.args.sim.now in
    let known = c.rules_are_known.ensures in
    let x = c.loop-number.invariant actions are in
    let y = nth_offer known s c.args.offers c.loop-number.number actions c.requires are c.loop-number-test.true in
    offer_told (model_in s) c.loop-number.number y.0 actions y.1 known _ _ _ x.0 x.1 x.2 (c.in_ok-tell_offer.ensures y.0 y.2)

pub returns : goal.returns
returns g c = λ actions are.
    let s = g.S.Simulator.simulation c.args.sim.now in
    let x = c.loop-number.invariant actions are in
    let count = c.rules_are_known.ensures.offers_counted s c.args.offers actions c.requires are in
    all_told (model_in s) c.loop-number.number actions _ _ x.0 (omega (arith, count, c.loop-number-test.false)) x.1 x.2
