use Rattle.pz_term_simulator.specs.Simulations.{clock_in}
use Rattle.pz_debug_commands.specs.Commands.{pass}
use Rattle.pz_debug_session.specs.Sessions.{stands_in, steps_in}
use Rattle.pz_debug_replies.specs.Lines.{refused_pass_line}
use Rattle.pz_debug_replies.specs.Replies.{passes, no_passing}
use Rattle.pz_debug_replies.proofs.Replied.{told, stepped, never_time}
use Rattle.pz_debug_replies.proofs.stepping.reply_pass.Goals as goal

pub returns-in-Time : goal.returns-in-Time
returns-in-Time g c = λ line.
    let s = stands_in g.E.Simulator.simulation c.args.session.now in
    let xs = steps_in c.args.session.now in
    stepped line pass xs s _ _ _ _ c.let_pass.result _ _ (passes xs s c.in-Time.time c.requires.place.after c.in-Time.ensures) c.let_pass.ensures.wrote c.let_pass.ensures.steps c.let_pass.ensures.at c.let_pass.ensures.setting

pub returns-in_default : goal.returns-in_default
returns-in_default g c = λ line.
    let s = stands_in g.E.Simulator.simulation c.args.session.now in
    let xs = steps_in c.args.session.now in
    told line pass xs s _ _ c.refuse_pass.result (refused_pass_line (clock_in s)) c.requires (no_passing xs s c.moment.result c.requires.place.after c.moment.ensures (never_time c.moment.result c.in_default.not-Time)) c.refuse_pass.ensures
