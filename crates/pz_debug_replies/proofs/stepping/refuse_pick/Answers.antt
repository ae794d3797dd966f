use Rattle.std.proofs.Common.{ℕ, subst}
use Rattle.std.specs.Result.{result_err}
use Rattle.pz_io.specs.Writing.{Wrote}
use Rattle.pz_term_simulator.specs.Simulations.{setting_in}
use Rattle.pz_debug_replies.specs.Lines.{refused_pick_line}
use Rattle.pz_debug_session.specs.Sessions.{stands_in, steps_in}
use Rattle.pz_debug_replies.proofs.Places.{clock_there}
use Rattle.pz_debug_replies.proofs.Written.{none_written, put_line}
use Rattle.pz_debug_replies.proofs.stepping.refuse_pick.Goals as goal

pub returns-in_err-line : goal.returns-in_err-line
returns-in_err-line g c = none_written c.rules_are_known.ensures _ _ c.from_residual.result c.from_residual.ensures.1

pub returns : goal.returns
returns g c =
    let s = stands_in g.E.Simulator.simulation c.args.session.now in
    subst (λ (n : ℕ). Wrote (g.W.Sink.state c.args.out.now) (g.W.Sink.state c.put.new.out) (refused_pick_line n c.args.number c.args.offers) (result_err c.put.result))
    (clock_there (setting_in s) (steps_in c.args.session.now) s c.clock.result c.requires.at.place.after c.clock.ensures)
    (put_line c.as_slice.result.now _ _ _ (refused_pick_line c.clock.result c.args.number c.args.offers) c.put.ensures.wrote (rw c.as_slice.ensures.value c.in_ok-line.ensures))
