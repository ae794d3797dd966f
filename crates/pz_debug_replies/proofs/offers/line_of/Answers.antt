use Rattle.std.proofs.Common.{◌≡◌, ◌∙◌, ap}
use Rattle.std.proofs.lemmas.Result.{IfOk-weaker}
use Rattle.pz_classes_code.specs.pz_syntax.Classes.{ModelTree}
use Rattle.pz_bind.specs.pz_classes.CheckedView.{checked_model}
use Rattle.pz_trace.specs.Lines.{action_line}
use Rattle.pz_term_simulator.specs.Simulations.{model_in, clock_in}
use Rattle.pz_debug_session.specs.Sessions.{stands_in}
use Rattle.pz_debug_replies.proofs.Places.{named_here, clock_of_actions}
use Rattle.pz_debug_replies.proofs.offers.line_of.Goals as goal

pub action_line-requires-clause-named : goal.action_line-requires-clause-named
action_line-requires-clause-named g c =
    named_here c.rules_are_known.ensures (stands_in g.E.Simulator.simulation c.args.session.now) c.args.number c.args.action.now c.net.result.now c.requires.offered c.net.ensures

pub returns : goal.returns
returns g c =
    let s = stands_in g.E.Simulator.simulation c.args.session.now in
    let b = c.args.action.now in
    let model : checked_model c.checked.result.now ≡ model_in s = c.checked.ensures in
    let clock : c.clock-clock.result ≡ clock_in s = clock_of_actions s c.args.offers c.clock-clock.result c.requires.moment c.clock-clock.ensures in
    IfOk-weaker c.action_line.result
    (λ line. line.items ≡ action_line (checked_model c.checked.result.now) c.clock-clock.result c.args.offers c.args.number b)
    (λ line. line.items ≡ action_line (model_in s) (clock_in s) c.args.offers c.args.number b)
    (λ line is. is ∙ ap (λ (m : ModelTree). action_line m c.clock-clock.result c.args.offers c.args.number b) model ∙ ap (λ x. action_line (model_in s) x c.args.offers c.args.number b) clock) c.action_line.ensures
