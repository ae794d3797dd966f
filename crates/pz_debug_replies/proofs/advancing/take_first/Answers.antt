use Rattle.std.proofs.Common.{sym, ◌∙◌}
use Rattle.pz_term_simulator.specs.Simulations.{setting_in}
use Rattle.pz_debug_session.specs.Sessions.{stands_in, steps_in}
use Rattle.pz_debug_replies.specs.devices.Advanced.{message_of}
use Rattle.pz_debug_replies.proofs.Places.{some_first}
use Rattle.pz_debug_replies.proofs.Written.{err_is}
use Rattle.pz_debug_replies.proofs.Replied.{acting_on, acting_last, acting_cut}
use Rattle.pz_debug_replies.proofs.advancing.take_first.Goals as goal

pub take_offer-requires-clause-there : goal.take_offer-requires-clause-there
take_offer-requires-clause-there g c =
    let s = stands_in g.E.Simulator.simulation c.args.session.now in
    some_first c.rules_are_known.ensures (setting_in s) (steps_in c.args.session.now) s c.args.offers c.requires.at.place.after c.requires.moment

pub returns-in_err-take_offer : goal.returns-in_err-take_offer
returns-in_err-take_offer g c =
    let s = stands_in g.E.Simulator.simulation c.args.session.now in
    rw (err_is c.from_residual.result c.in_err-take_offer.field-0.0 c.from_residual.ensures.1)
    (acting_cut c.rules_are_known.ensures (message_of c.args.wanted) (steps_in c.args.session.now) s c.requires.at _ _ _ _ c.in_err-take_offer.ensures.setting c.args.offers c.args.action.now c.requires.moment c.requires.offered c.in_err-take_offer.field-0.0 c.in_err-take_offer.ensures.wrote)

pub returns-then-is_wanted : goal.returns-then-is_wanted
returns-then-is_wanted g c =
    let s = stands_in g.E.Simulator.simulation c.args.session.now in
    acting_last c.rules_are_known.ensures (message_of c.args.wanted) (steps_in c.args.session.now) s c.requires.at _ _ _ _ c.in_ok-take_offer.ensures.setting c.args.offers c.args.action.now c.requires.moment c.requires.offered
    c.in_ok-take_offer.ensures.steps c.in_ok-take_offer.ensures.at (sym c.is_wanted.ensures ∙ c.if-is_wanted.true) c.in_ok-take_offer.ensures.wrote

pub returns-else-is_wanted : goal.returns-else-is_wanted
returns-else-is_wanted g c =
    let s = stands_in g.E.Simulator.simulation c.args.session.now in
    acting_on c.rules_are_known.ensures (message_of c.args.wanted) (steps_in c.args.session.now) s c.requires.at _ _ _ _ c.in_ok-take_offer.ensures.setting c.args.offers c.args.action.now c.requires.moment c.requires.offered
    c.in_ok-take_offer.ensures.steps c.in_ok-take_offer.ensures.at (sym c.is_wanted.ensures ∙ c.if-is_wanted.false) c.in_ok-take_offer.ensures.wrote
