use Rattle.std.proofs.Common.{refl}
use Rattle.pz_term_simulator.specs.Simulations.{setting_in}
use Rattle.pz_debug_session.specs.Sessions.{stands_in, steps_in}
use Rattle.pz_debug_replies.specs.devices.Advanced.{message_of}
use Rattle.pz_debug_replies.proofs.Places.{some_first}
use Rattle.pz_debug_replies.proofs.Written.{err_is}
use Rattle.pz_debug_replies.proofs.Replied.{no_memory}
use Rattle.pz_debug_replies.proofs.advancing.go_on_acting.Goals as goal

pub offer_of-requires : goal.offer_of-requires
offer_of-requires g c =
    let s = stands_in g.E.Simulator.simulation c.args.session.now in
    (c.args.offers, c.requires.moment, some_first c.rules_are_known.ensures (setting_in s) (steps_in c.args.session.now) s c.args.offers c.requires.at.place.after c.requires.moment)

pub returns-in_err-action : goal.returns-in_err-action
returns-in_err-action g c =
    let s = stands_in g.E.Simulator.simulation c.args.session.now in
    rw (err_is c.from_residual.result _ c.from_residual.ensures.1)
    (no_memory c.rules_are_known.ensures (message_of c.args.wanted) (steps_in c.args.session.now) s c.requires.at s _ _ refl refl (steps_in c.args.session.now))
