use Rattle.std.proofs.Common.{◌≡◌, ◌≤◌, ℕ, subst, sym, ap, ◌∙◌, arith}
use Rattle.std.specs.Result.{result_err}
use Rattle.pz_io.specs.Writing.{Wrote}
use Rattle.pz_rules.specs.declared.moment.Moment.{Moment}
use Rattle.pz_rules.specs.declared.moment.Moment.TheVariants.{Actions}
use Rattle.pz_term_simulator.specs.Simulations.{IsMomentOf, clock_in}
use Rattle.pz_debug_replies.specs.Lines.{refused_pick_line}
use Rattle.pz_debug_commands.specs.Commands.{pick}
use Rattle.pz_debug_session.specs.Sessions.{stands_in, steps_in}
use Rattle.pz_debug_replies.specs.Replies.{offers_at, no_offer}
use Rattle.pz_debug_replies.proofs.Replied.{told, counts_some}
use Rattle.pz_debug_replies.proofs.stepping.reply_pick.Goals as goal

pub pick_offer-requires-clause-moment : goal.pick_offer-requires-clause-moment
pick_offer-requires-clause-moment g c =
    let s = stands_in g.E.Simulator.simulation c.args.session.now in
    let same : c.offers_at-offers.result ≡ offers_at c.moment.result = c.offers_at-offers.ensures in
    let below = c.if-number-offers.true in
    subst (λ (m : Moment). IsMomentOf s m) (counts_some c.moment.result c.args.number (omega (arith, below, same)) ∙ ap (λ (n : ℕ). Actions n) (sym same)) c.moment.ensures

pub returns-else-number-offers : goal.returns-else-number-offers
returns-else-number-offers g c = λ line.
    let s = stands_in g.E.Simulator.simulation c.args.session.now in
    let xs = steps_in c.args.session.now in
    let same : c.offers_at-offers.result ≡ offers_at c.moment.result = c.offers_at-offers.ensures in
    let few : offers_at c.moment.result ≤ c.args.number = omega (arith, same, c.if-number-offers.false) in
    told line (pick c.args.number) xs s _ _ c.refuse_pick.result (refused_pick_line (clock_in s) c.args.number (offers_at c.moment.result)) c.requires
    (no_offer xs s c.args.number c.moment.result c.requires.place.after c.moment.ensures few)
    (subst (λ (n : ℕ). Wrote (g.W.Sink.state c.args.out.now) (g.W.Sink.state c.refuse_pick.new.out) (refused_pick_line (clock_in s) c.args.number n) (result_err c.refuse_pick.result)) same c.refuse_pick.ensures)
