use Rattle.std.proofs.Common.{◌≡◌, ◌∙◌, ap}
use Rattle.std.proofs.lemmas.Result.{IfOk-weaker}
use Rattle.pz_classes_code.specs.pz_syntax.Classes.{ModelTree}
use Rattle.pz_bind.specs.pz_classes.CheckedView.{checked_model}
use Rattle.pz_rules.specs.declared.action.Action.{Action}
use Rattle.pz_term_simulator.specs.Simulations.{model_in, IsOffer}
use Rattle.pz_debug_replies.specs.Lines.{offer_line}
use Rattle.pz_debug_session.specs.Sessions.{stands_in}
use Rattle.pz_debug_replies.proofs.Places.{named_here}
use Rattle.pz_debug_replies.proofs.menu.offered_line.Goals as goal

pub offer_line-requires-clause-named : goal.offer_line-requires-clause-named
offer_line-requires-clause-named g c =
    named_here c.rules_are_known.ensures (stands_in g.E.Simulator.simulation c.args.session.now) c.args.number c.in_ok-action.action c.net.result.now c.in_ok-action.ensures c.net.ensures

pub returns : goal.returns
returns g c =
    let s = stands_in g.E.Simulator.simulation c.args.session.now in
    let b = c.in_ok-action.action in
    IfOk-weaker c.offer_line.result
    (λ line. line.items ≡ offer_line (checked_model c.checked.result.now) c.args.number b)
    (λ line. (a : Action) → IsOffer s c.args.number a → line.items ≡ offer_line (model_in s) c.args.number a)
    (λ line is a offer.
    is ∙ ap (λ (m : ModelTree). offer_line m c.args.number b) c.checked.ensures
    ∙ ap (λ (x : Action). offer_line (model_in s) c.args.number x) (c.rules_are_known.ensures.one_offer s c.args.number b a c.in_ok-action.ensures offer)) c.offer_line.ensures
