use Rattle.std.proofs.Common.{◌≡◌, length, Some, refl, sym, subst, arith}
use Rattle.std.specs.Prelude.{slice_get}
use Rattle.std.proofs.lemmas.Option.{slice_get_read}
use Rattle.std.proofs.lemmas.Result.{IfOk-weaker}
use Rattle.pz_term_simulator.specs.Simulations.{IsOffer}
use Rattle.pz_term.specs.Plains.{simulation_of}
use Rattle.pz_term.proofs.Shown.{offer_of_list}
use Rattle.pz_term.proofs.simulating.PlainSimulator.offer.Goals as goal

pub offset_bounds-offers-k : goal.offset_bounds-offers-k
offset_bounds-offers-k c =
    let count = c.simulators_show_one_moment.ensures.counted (simulation_of c.args.self.now) c.requires.0 c.offers-offers.result.now c.requires.1 c.offers-offers.ensures in
    omega (arith, count, c.requires.2)

pub bounds-offers-k : goal.bounds-offers-k
bounds-offers-k c =
    let count = c.simulators_show_one_moment.ensures.counted (simulation_of c.args.self.now) c.requires.0 c.offers-offers.result.now c.requires.1 c.offers-offers.ensures in
    omega (arith, count, c.requires.2)

pub returns : goal.returns
returns c =
    let s = simulation_of c.args.self.now in
    let offers = c.offers-offers.result.now in
    let a = c.index-offers-k.result in
    let count = c.simulators_show_one_moment.ensures.counted s c.requires.0 offers c.requires.1 c.offers-offers.ensures in
    let chosen : slice_get offers c.args.k ≡ Some a = slice_get_read offers (length offers) c.args.k a refl (omega (arith, count, c.requires.2)) c.index-offers-k.is in
    IfOk-weaker c.copy_action.result (λ copy. copy ≡ a) (IsOffer s c.args.k)
    (λ copy is. subst (IsOffer s c.args.k) (sym is) (offer_of_list s offers c.requires.0 c.args.k a c.offers-offers.ensures c.requires.1 chosen)) c.copy_action.ensures
