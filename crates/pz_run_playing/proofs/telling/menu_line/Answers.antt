use Rattle.std.proofs.Common.{◌≡◌, ◌∙◌}
use Rattle.std.proofs.lemmas.Result.{IfOk-weaker}
use Rattle.pz_bind.specs.pz_classes.CheckedView.{checked_model}
use Rattle.pz_rules.specs.declared.action.Action.{Action}
use Rattle.pz_term_simulator.specs.Simulations.{model_in, IsOffer}
use Rattle.pz_run_playing.specs.Menus.{offer_line}
use Rattle.pz_run_playing.proofs.Simulated.{named_here}
use Rattle.pz_run_playing.proofs.Told.{same_offer}
use Rattle.pz_run_playing.proofs.telling.menu_line.Goals as goal

pub offer_line-requires-clause-named : goal.offer_line-requires-clause-named
offer_line-requires-clause-named g c =
    named_here c.rules_are_known.ensures (g.S.Simulator.simulation c.args.sim.now) c.args.number c.in_ok-action.action c.net.result.now c.in_ok-action.ensures c.net.ensures

pub returns : goal.returns
returns g c =
    let s = g.S.Simulator.simulation c.args.sim.now in
    let b = c.in_ok-action.action in
    IfOk-weaker c.offer_line.result
    (λ line. line.items ≡ offer_line (checked_model c.checked.result.now) c.args.number b)
    (λ line. (a : Action) → IsOffer s c.args.number a → line.items ≡ offer_line (model_in s) c.args.number a)
    (λ line is a offer.
    is ∙ same_offer (checked_model c.checked.result.now) (model_in s) c.args.number b a c.checked.ensures
    (c.rules_are_known.ensures.one_offer s c.args.number b a c.in_ok-action.ensures offer)) c.offer_line.ensures
