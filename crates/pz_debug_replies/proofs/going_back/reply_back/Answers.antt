use Rattle.std.proofs.Common.{refl}
use Rattle.pz_debug_commands.specs.Commands.{back}
use Rattle.pz_debug_session.specs.Sessions.{stands_in, steps_in}
use Rattle.pz_debug_replies.proofs.Replied.{at_back, went_back, too_far_back, nothing_replied}
use Rattle.pz_debug_replies.proofs.going_back.reply_back.Goals as goal

pub tell_back-requires : goal.tell_back-requires
tell_back-requires g c =
    at_back (steps_in c.args.session.now) (stands_in g.E.Simulator.simulation c.args.session.now) (steps_in c.back.new.self) (stands_in g.E.Simulator.simulation c.back.new.self) c.requires c.in-Ok.ensures.place c.in-Ok.ensures.setting

pub returns-in-Ok : goal.returns-in-Ok
returns-in-Ok g c = λ line.
    went_back line c.args.n (steps_in c.args.session.now) (stands_in g.E.Simulator.simulation c.args.session.now) (steps_in c.back.new.self) (stands_in g.E.Simulator.simulation c.back.new.self) _ _ c.tell_back.result
    c.requires c.in-Ok.ensures.within c.in-Ok.ensures.steps c.in-Ok.ensures.place c.in-Ok.ensures.setting c.tell_back.ensures

pub returns-in-Err-TooFar : goal.returns-in-Err-TooFar
returns-in-Err-TooFar g c = λ line.
    let xs = steps_in c.args.session.now in
    let s = stands_in g.E.Simulator.simulation c.args.session.now in
    let past = rw c.in-Err-TooFar.field-0-is at c.in-Err-TooFar.ensures.too_far in
    rw c.in-Err-TooFar.ensures.unchanged
    (too_far_back line c.args.n c.in-Err-TooFar.steps xs s _ _ c.refuse_back.result c.requires past.0 past.1 c.refuse_back.ensures)

pub returns-in-Err-NoMemory : goal.returns-in-Err-NoMemory
returns-in-Err-NoMemory g c = λ line.
    let xs = steps_in c.args.session.now in
    let s = stands_in g.E.Simulator.simulation c.args.session.now in
    rw c.in-Err-NoMemory.ensures.unchanged (nothing_replied c.rules_are_known.ensures line (back c.args.n) xs s xs s _ _ c.requires refl refl)
