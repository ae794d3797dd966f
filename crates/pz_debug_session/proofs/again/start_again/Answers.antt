use Rattle.std.proofs.Common.{subst, ◌∙◌}
use Rattle.std.proofs.lemmas.Result.{IfOk-weaker}
use Rattle.pz_bind.specs.pz_classes.CheckedView.{checked_model}
use Rattle.pz_rules.specs.Settings.{Setting}
use Rattle.pz_term_processes.specs.Standing.{setting_of}
use Rattle.pz_term_simulator.specs.Simulations.{Starts, setting_in}
use Rattle.pz_debug_session.proofs.Placed.{same_setting}
use Rattle.pz_debug_session.proofs.again.start_again.Goals as goal

pub returns : goal.returns
returns g c =
    let s = g.E.Simulator.simulation c.args.engine.now in
    let same = same_setting (checked_model c.in_ok-checked.checked) c.limits.result s (c.in_ok-checked.ensures ∙ c.checked.ensures) c.limits.ensures in
    IfOk-weaker c.start.result
    (λ again. Starts (setting_of (checked_model c.in_ok-checked.checked) c.limits.result) (g.E.Simulator.simulation again))
    (λ again. Starts (setting_in s) (g.E.Simulator.simulation again))
    (λ again starts. subst (λ (x : Setting). Starts x (g.E.Simulator.simulation again)) same starts) c.start.ensures
