use Rattle.std.proofs.Common.{refl}
use Rattle.pz_debug_commands.specs.Commands.{pick}
use Rattle.pz_debug_session.specs.Sessions.{stands_in, steps_in}
use Rattle.pz_debug_replies.specs.Replies.{picks}
use Rattle.pz_debug_replies.proofs.Written.{err_is}
use Rattle.pz_debug_replies.proofs.Replied.{nothing_replied, stepped}
use Rattle.pz_debug_replies.proofs.stepping.pick_offer.Goals as goal

pub returns-in_err-action : goal.returns-in_err-action
returns-in_err-action g c = λ line.
    let s = stands_in g.E.Simulator.simulation c.args.session.now in
    nothing_replied c.rules_are_known.ensures line (pick c.args.number) (steps_in c.args.session.now) s _ _ _ c.from_residual.result c.requires.at refl (err_is c.from_residual.result _ c.from_residual.ensures.1)

pub returns : goal.returns
returns g c = λ line.
    let s = stands_in g.E.Simulator.simulation c.args.session.now in
    let xs = steps_in c.args.session.now in
    stepped line (pick c.args.number) xs s _ _ _ _ c.take_offer.result _ _ (picks xs s c.args.offers c.args.number c.in_ok-action.action c.requires.at.place.after c.requires.moment c.in_ok-action.ensures) c.take_offer.ensures.wrote c.take_offer.ensures.steps c.take_offer.ensures.at c.take_offer.ensures.setting
