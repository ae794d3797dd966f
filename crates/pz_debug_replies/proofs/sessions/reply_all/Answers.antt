use Rattle.std.proofs.Common.{ℕ, Result, Ok, Err, refl, sym, subst}
use Rattle.pz_io.specs.declared.writing.Halt.{Halt}
use Rattle.pz_term_simulator.specs.Simulations.{setting_in}
use Rattle.pz_debug_commands.specs.CommandView.{command_of}
use Rattle.pz_debug_session.specs.Sessions.{stands_in, steps_in}
use Rattle.pz_debug_replies.specs.Replying.{Replied}
use Rattle.pz_debug_replies.specs.devices.Answering.{IsAnswered}
use Rattle.pz_debug_replies.proofs.Written.{err_is}
use Rattle.pz_debug_replies.proofs.Answered.{begins_at, all_answered, answered, halted}
use Rattle.pz_debug_replies.proofs.sessions.reply_all.Goals as goal

pub commands-init : goal.commands-init
commands-init g c =
    let s = stands_in g.E.Simulator.simulation c.args.session.now in
    begins_at c.rules_are_known.ensures (setting_in s) c.args.text.now _ (steps_in c.args.session.now) s c.new-commands.result.text c.new-commands.result.line c.requires.new c.new-commands.ensures.text c.new-commands.ensures.line c.requires.at refl

pub reply-requires : goal.reply-requires
reply-requires g c = c.commands.invariant.is_at

pub returns-in_default : goal.returns-in_default
returns-in_default g c =
    all_answered c.rules_are_known.ensures (setting_in (stands_in g.E.Simulator.simulation c.args.session.now)) c.args.text.now _ _ _ _ _ _ c.commands.invariant _ _ refl c.in_default.ensures.none

pub commands-preserved : goal.commands-preserved
commands-preserved g c =
    let setting = setting_in (stands_in g.E.Simulator.simulation c.args.session.now) in
    let s = stands_in g.E.Simulator.simulation c.commands.session in
    let t = stands_in g.E.Simulator.simulation c.reply.new.session in
    let r : Result (Unit {0}) Halt = Ok c.in_ok-reply.field-0 in
    subst (λ (n : ℕ). IsAnswered setting c.args.text.now (g.W.Sink.state c.args.out.now) (steps_in c.reply.new.session) t (g.W.Sink.state c.reply.new.out) c.next.new.self.text n) (sym c.in-Some.ensures.counted)
    (answered c.rules_are_known.ensures setting c.args.text.now (g.W.Sink.state c.args.out.now) (steps_in c.commands.session) s (g.W.Sink.state c.commands.out) c.commands.commands.text c.commands.commands.line c.commands.invariant
    (command_of c.in-Some.next.command) c.next.new.self.text c.in-Some.ensures.found (steps_in c.reply.new.session) t (g.W.Sink.state c.reply.new.out) r c.in_ok-reply.field-0 refl
    (subst (λ (n : ℕ). Replied n (command_of c.in-Some.next.command) (steps_in c.commands.session) s (steps_in c.reply.new.session) t (g.W.Sink.state c.commands.out) (g.W.Sink.state c.reply.new.out) r) c.in-Some.ensures.number c.in_ok-reply.ensures))

pub returns-in_err-reply : goal.returns-in_err-reply
returns-in_err-reply g c =
    let setting = setting_in (stands_in g.E.Simulator.simulation c.args.session.now) in
    let s = stands_in g.E.Simulator.simulation c.commands.session in
    let t = stands_in g.E.Simulator.simulation c.reply.new.session in
    let r : Result (Unit {0}) Halt = Err c.in_err-reply.field-0.0 in
    halted c.rules_are_known.ensures setting c.args.text.now (g.W.Sink.state c.args.out.now) (steps_in c.commands.session) s (g.W.Sink.state c.commands.out) c.commands.commands.text c.commands.commands.line c.commands.invariant
    (command_of c.in-Some.next.command) c.next.new.self.text c.in-Some.ensures.found (steps_in c.reply.new.session) t (g.W.Sink.state c.reply.new.out) r c.from_residual.result c.in_err-reply.field-0.0 refl (err_is c.from_residual.result c.in_err-reply.field-0.0 c.from_residual.ensures.1)
    (subst (λ (n : ℕ). Replied n (command_of c.in-Some.next.command) (steps_in c.commands.session) s (steps_in c.reply.new.session) t (g.W.Sink.state c.commands.out) (g.W.Sink.state c.reply.new.out) r) c.in-Some.ensures.number c.in_err-reply.ensures)
