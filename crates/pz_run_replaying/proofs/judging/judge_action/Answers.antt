use Rattle.std.proofs.Common.{◌<◌, ◌^◌, refl, sym, ap, ◌∙◌, List, ℕ, ◌++◌, Vec, arith}
use Rattle.std.specs.declared.alloc.Global.{Global}
use Rattle.pz_rules.specs.declared.moment.Moment.TheVariants.{Actions}
use Rattle.pz_run_replaying.proofs.Simulated.{clock_of_ready}
use Rattle.pz_run_replaying.proofs.Found.{judges_stop, judges_offer, differs_none, differs_offer, few_there}
use Rattle.pz_run_replaying.proofs.judging.judge_action.Goals as goal

pub make_offer-requires-clause-at : goal.make_offer-requires-clause-at
make_offer-requires-clause-at g c = clock_of_ready (g.S.Simulator.simulation c.args.sim.now) c.clock-clock.result c.requires.ready c.clock-clock.ensures

pub returns-in_err-len-clause-few : goal.returns-in_err-len-clause-few
returns-in_err-len-clause-few g c = few_there c.rules_are_known.ensures.one_moment_of (g.S.Simulator.simulation c.args.sim.now) c.args.offers c.requires.moment (omega arith)

pub returns-in-Some-clause-judges : goal.returns-in-Some-clause-judges
returns-in-Some-clause-judges g c =
    judges_stop (g.S.Simulator.simulation c.args.sim.now) (Actions c.args.offers) c.args.rest.now c.in-Some.len c.requires.ready c.requires.moment refl (rw c.in-Some.is at c.in_ok-len.ensures)

pub returns-in-Some-clause-few : goal.returns-in-Some-clause-few
returns-in-Some-clause-few g c = few_there c.rules_are_known.ensures.one_moment_of (g.S.Simulator.simulation c.args.sim.now) c.args.offers c.requires.moment (omega arith)

pub returns-in_default-named_offer-clause-judges : goal.returns-in_default-named_offer-clause-judges
returns-in_default-named_offer-clause-judges g c =
    let s = g.S.Simulator.simulation c.args.sim.now in
    let clock = clock_of_ready s c.clock-clock.result c.requires.ready c.clock-clock.ensures in
    let fits : c.clock-clock.result < 2 ^ 128 = omega (arith, c.clock-clock.type_inv) in
    differs_none c.rules_are_known.ensures s c.args.rest.now c.args.offers c.clock-clock.result c.requires.ready c.requires.moment clock fits (omega arith) (rw c.in_default.is at c.in_ok-len.ensures) c.in_default-named_offer.ensures

pub returns-in_default-named_offer-clause-few : goal.returns-in_default-named_offer-clause-few
returns-in_default-named_offer-clause-few g c = few_there c.rules_are_known.ensures.one_moment_of (g.S.Simulator.simulation c.args.sim.now) c.args.offers c.requires.moment (omega arith)

pub returns-in_err-make_offer-clause-few : goal.returns-in_err-make_offer-clause-few
returns-in_err-make_offer-clause-few g c = few_there c.rules_are_known.ensures.one_moment_of (g.S.Simulator.simulation c.args.sim.now) c.args.offers c.requires.moment (omega arith)

pub returns-in-Some-front_len-clause-judges : goal.returns-in-Some-front_len-clause-judges
returns-in-Some-front_len-clause-judges g c =
    judges_offer c.rules_are_known.ensures (g.S.Simulator.simulation c.args.sim.now) c.args.rest.now c.as_slice.result.now c.args.offers c.in-Some-named_offer.number c.in-Some-front_len.len c.requires.moment c.in-Some-named_offer.ensures.0
    (λ a offer. c.as_slice.ensures.value ∙ c.in_ok-make_offer.ensures a offer) c.in-Some-front_len.ensures

pub returns-in-Some-front_len-clause-few : goal.returns-in-Some-front_len-clause-few
returns-in-Some-front_len-clause-few g c = few_there c.rules_are_known.ensures.one_moment_of (g.S.Simulator.simulation c.args.sim.now) c.args.offers c.requires.moment (omega arith)

pub returns-in-None-clause-judges : goal.returns-in-None-clause-judges
returns-in-None-clause-judges g c =
    let s = g.S.Simulator.simulation c.args.sim.now in
    let clock = clock_of_ready s c.clock-clock.result c.requires.ready c.clock-clock.ensures in
    let fits : c.clock-clock.result < 2 ^ 128 = omega (arith, c.clock-clock.type_inv) in
    let named = c.in-Some-named_offer.ensures in
    let out = ap (λ (l : Vec ℕ Global). l.items) c.replace.ensures.value in
    differs_offer c.rules_are_known.ensures s c.args.rest.now c.args.offers c.in-Some-named_offer.number c.clock-clock.result c.replace.result c.requires.ready c.requires.moment clock fits (omega arith) named.0
    (rw c.in_default.is at c.in_ok-len.ensures) named.1 (λ a offer. out ∙ c.in_ok-make_offer.ensures a offer)
    (λ left is. c.in-None.ensures left (is ∙ ap (λ (l : List ℕ). l ++ left) (out ∙ sym c.as_slice.ensures.value)))

pub returns-in-None-clause-few : goal.returns-in-None-clause-few
returns-in-None-clause-few g c = few_there c.rules_are_known.ensures.one_moment_of (g.S.Simulator.simulation c.args.sim.now) c.args.offers c.requires.moment (omega arith)
