use Rattle.std.proofs.Common.{refl, ◌++◌}
use Rattle.pz_rules.specs.declared.moment.Moment.TheVariants.{Finished, Deadlock, Faulty, Stopped}
use Rattle.pz_trace.specs.Lines.{end_line}
use Rattle.pz_trace.specs.declared.ending.Ending.TheVariants as ending
use Rattle.pz_term_simulator.specs.Simulations.{model_in, clock_in, setting_in}
use Rattle.pz_debug_replies.specs.Lines.{offers_text}
use Rattle.pz_debug_commands.specs.Commands.{menu}
use Rattle.pz_debug_session.specs.Sessions.{stands_in, steps_in}
use Rattle.pz_debug_replies.specs.Lines.{menu_line, waiting_line}
use Rattle.pz_debug_replies.specs.Replies.{offered, waiting, over}
use Rattle.pz_debug_replies.proofs.Places.{never_broken}
use Rattle.pz_debug_replies.proofs.Replied.{told}
use Rattle.pz_debug_replies.proofs.menu.reply_menu.Goals as goal

pub unreachable-requires : goal.unreachable-requires
unreachable-requires g c =
    let s = stands_in g.E.Simulator.simulation c.args.session.now in
    never_broken (setting_in s) (steps_in c.args.session.now) s c.moment.result c.requires.place.after c.moment.ensures c.in-Broken.is

pub returns-in-Actions : goal.returns-in-Actions
returns-in-Actions g c = λ line.
    let s = stands_in g.E.Simulator.simulation c.args.session.now in
    let xs = steps_in c.args.session.now in
    let all = c.rules_are_known.ensures.offers_there s c.in-Actions.offers c.in-Actions.ensures in
    told line menu xs s _ _ c.tell_offers.result (menu_line (clock_in s) c.in-Actions.offers ++ offers_text (model_in s) 0 all.0) c.requires
    (offered xs s c.in-Actions.offers all.0 c.requires.place.after c.in-Actions.ensures all.1) (c.tell_offers.ensures all.0 all.1)

pub returns-in-Time : goal.returns-in-Time
returns-in-Time g c = λ line.
    let s = stands_in g.E.Simulator.simulation c.args.session.now in
    let xs = steps_in c.args.session.now in
    told line menu xs s _ _ c.tell_waiting.result (waiting_line (clock_in s) c.in-Time.time) c.requires (waiting xs s c.in-Time.time c.requires.place.after c.in-Time.ensures) c.tell_waiting.ensures

pub returns-in-Finished : goal.returns-in-Finished
returns-in-Finished g c = λ line.
    let s = stands_in g.E.Simulator.simulation c.args.session.now in
    let xs = steps_in c.args.session.now in
    told line menu xs s _ _ c.tell_end.result (end_line (model_in s) (clock_in s) ending.End) c.requires (over xs s Finished ending.End c.requires.place.after c.in-Finished.ensures refl) c.tell_end.ensures

pub returns-in-Deadlock : goal.returns-in-Deadlock
returns-in-Deadlock g c = λ line.
    let s = stands_in g.E.Simulator.simulation c.args.session.now in
    let xs = steps_in c.args.session.now in
    told line menu xs s _ _ c.tell_end-in-Deadlock.result (end_line (model_in s) (clock_in s) ending.Deadlock) c.requires (over xs s Deadlock ending.Deadlock c.requires.place.after c.in-Deadlock.ensures refl) c.tell_end-in-Deadlock.ensures

pub returns-in-Faulty : goal.returns-in-Faulty
returns-in-Faulty g c = λ line.
    let s = stands_in g.E.Simulator.simulation c.args.session.now in
    let xs = steps_in c.args.session.now in
    told line menu xs s _ _ c.tell_end-in-Faulty.result (end_line (model_in s) (clock_in s) (ending.Trouble c.in-Faulty.trouble)) c.requires (over xs s (Faulty c.in-Faulty.trouble) (ending.Trouble c.in-Faulty.trouble) c.requires.place.after c.in-Faulty.ensures refl) c.tell_end-in-Faulty.ensures

pub returns-in-Stopped : goal.returns-in-Stopped
returns-in-Stopped g c = λ line.
    let s = stands_in g.E.Simulator.simulation c.args.session.now in
    let xs = steps_in c.args.session.now in
    told line menu xs s _ _ c.tell_end-in-Stopped.result (end_line (model_in s) (clock_in s) (ending.Trouble c.in-Stopped.trouble)) c.requires (over xs s (Stopped c.in-Stopped.trouble) (ending.Trouble c.in-Stopped.trouble) c.requires.place.after c.in-Stopped.ensures refl) c.tell_end-in-Stopped.ensures
