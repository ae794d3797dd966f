use Rattle.pz_debug_session.specs.Sessions.{stands_in, steps_in}
use Rattle.pz_debug_replies.proofs.Replied.{at_choice, at_steps, no_such}
use Rattle.pz_debug_replies.proofs.stepping.pick.Goals as goal

pub returns-in-Ok-clause-at : goal.returns-in-Ok-clause-at
returns-in-Ok-clause-at g c =
    let s = stands_in g.E.Simulator.simulation c.args.session.now in
    let t = stands_in g.E.Simulator.simulation c.pick.new.self in
    at_steps _ (steps_in c.pick.new.self) t c.in-Ok.ensures.steps (at_choice c.rules_are_known.ensures (steps_in c.args.session.now) c.args.number s t c.requires.at c.in-Ok.ensures.setting c.in-Ok.ensures.ok)

pub unreachable-requires : goal.unreachable-requires
unreachable-requires g c =
    let other = rw c.in-Err-NoSuchOffer.field-0-is at c.in-Err-NoSuchOffer.ensures.no_such_offer in
    no_such c.rules_are_known.ensures (stands_in g.E.Simulator.simulation c.args.session.now) c.requires.there.0 c.args.number c.in-Err-NoSuchOffer.field-0-0 c.requires.there.1 c.requires.there.2 other.0 other.1
