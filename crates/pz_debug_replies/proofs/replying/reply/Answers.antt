use Rattle.pz_debug_session.specs.Sessions.{stands_in, steps_in}
use Rattle.pz_debug_commands.specs.Commands.{unknown}
use Rattle.pz_debug_replies.specs.Lines.{refused_command_line}
use Rattle.pz_debug_replies.specs.Replies.{is_unknown}
use Rattle.pz_debug_replies.proofs.Replied.{told, run_replied, until_replied}
use Rattle.pz_debug_replies.proofs.replying.reply.Goals as goal

pub returns-in-Run : goal.returns-in-Run
returns-in-Run g c = rw c.in-Run.is (run_replied c.args.next.line c.in-Run.most _ _ _ _ _ _ c.advance.result c.advance.ensures)

pub returns-in-Until : goal.returns-in-Until
returns-in-Until g c = rw c.in-Until.is (until_replied c.args.next.line c.in-Until.most c.in-Until.message.now _ _ _ _ _ _ c.advance-in-Until.result c.advance-in-Until.ensures)

pub returns-in-Unknown : goal.returns-in-Unknown
returns-in-Unknown g c =
    let xs = steps_in c.args.session.now in
    rw c.in-Unknown.is
    (told c.args.next.line unknown xs (stands_in g.E.Simulator.simulation c.args.session.now) _ _ c.refuse.result (refused_command_line c.args.next.line) c.requires (is_unknown xs) c.refuse.ensures)
