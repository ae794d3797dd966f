use Rattle.std.proofs.Common.{◌≡◌, ap, ◌∙◌, ℕ}
use Rattle.std.proofs.lemmas.Result.{on_ok_weaker}
use Rattle.pz_rules.specs.pz_syntax.Classes.{ModelTree}
use Rattle.pz_bind.specs.pz_classes.CheckedView.{checked_model}
use Rattle.pz_rules.specs.declared.action.Action.{Action}
use Rattle.pz_trace.specs.Lines.{action_line}
use Rattle.pz_term_simulator.specs.Simulations.{model_in, clock_in}
use Rattle.pz_run_replaying.proofs.Simulated.{named_here}
use Rattle.pz_run_replaying.proofs.Written.{put_alone}
use Rattle.pz_run_replaying.proofs.judging.make_offer.Goals as goal

pub put_action_line-requires-clause-named : goal.put_action_line-requires-clause-named
put_action_line-requires-clause-named g c =
    named_here c.rules_are_known.ensures (g.S.Simulator.simulation c.args.sim.now) c.args.number c.in_ok-action.action c.net.result.now c.in_ok-action.ensures c.net.ensures

pub returns : goal.returns
returns g c =
    let s = g.S.Simulator.simulation c.args.sim.now in
    let n = c.args.offers in
    let k = c.args.number in
    let b = c.in_ok-action.action in
    let model : checked_model c.checked.result.now ≡ model_in s = c.checked.ensures in
    on_ok_weaker c.put_action_line.result
    (λ is a offer.
    let same : b ≡ a = c.rules_are_known.ensures.one_offer s k b a c.in_ok-action.ensures offer in
    put_alone c.clear.new.self.items (action_line (checked_model c.checked.result.now) c.args.clock n k b) c.put_action_line.new.out.items c.clear.ensures.items is
    ∙ ap (λ (m : ModelTree). action_line m c.args.clock n k b) model ∙ ap (λ (i : ℕ). action_line (model_in s) i n k b) c.requires.at
    ∙ ap (λ (z : Action). action_line (model_in s) (clock_in s) n k z) same) c.put_action_line.ensures
