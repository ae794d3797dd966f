use Rattle.std.proofs.Common.{◌≡◌, ◌∙◌, refl}
use Rattle.std.proofs.lemmas.Result.{on_ok_weaker}
use Rattle.pz_bind.specs.pz_classes.CheckedView.{checked_model}
use Rattle.pz_watch_points.specs.pz_trace.Lines.{action_line}
use Rattle.pz_term_simulator.specs.Simulations.{model_in, clock_in}
use Rattle.pz_run_playing.proofs.Simulated.{clock_of_actions, named_here}
use Rattle.pz_run_playing.proofs.Told.{same_line, put_alone}
use Rattle.pz_run_playing.proofs.telling.make_line.Goals as goal

pub put_action_line-requires-clause-named : goal.put_action_line-requires-clause-named
put_action_line-requires-clause-named g c =
    named_here c.rules_are_known.ensures (g.S.Simulator.simulation c.args.sim.now) c.args.number c.args.action.now c.net.result.now c.requires.offered c.net.ensures

pub returns : goal.returns
returns g c =
    let s = g.S.Simulator.simulation c.args.sim.now in
    let b = c.args.action.now in
    let model : checked_model c.checked.result.now ≡ model_in s = c.checked.ensures in
    let clock : c.clock-clock.result ≡ clock_in s = clock_of_actions s c.args.offers c.clock-clock.result c.requires.moment c.clock-clock.ensures in
    let line = action_line (checked_model c.checked.result.now) c.clock-clock.result c.args.offers c.args.number b in
    on_ok_weaker c.put_action_line.result
    (λ is. put_alone c.clear.new.self.items line c.put_action_line.new.out.items c.clear.ensures.items is ∙ same_line (checked_model c.checked.result.now) (model_in s) c.clock-clock.result (clock_in s) c.args.offers c.args.number b b model clock refl) c.put_action_line.ensures
