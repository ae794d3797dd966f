use Rattle.pz_debug_commands.specs.Commands.{show}
use Rattle.pz_debug_session.specs.Sessions.{stands_in, steps_in}
use Rattle.pz_debug_replies.specs.Lines.{refused_show_line}
use Rattle.pz_debug_replies.specs.Replies.{shows_none}
use Rattle.pz_debug_replies.proofs.Replied.{told}
use Rattle.pz_debug_replies.proofs.showing.reply_show.Goals as goal

pub returns-in-None : goal.returns-in-None
returns-in-None g c = λ line.
    let xs = steps_in c.args.session.now in
    told line (show c.args.path.now c.args.name.now) xs (stands_in g.E.Simulator.simulation c.args.session.now) _ _ c.put.result refused_show_line c.requires (shows_none xs c.args.path.now c.args.name.now c.in-None.ensures) c.put.ensures.wrote
