use Rattle.std.proofs.Common.{◌≡◌, refl, ap, ◌∙◌}
use Rattle.std.specs.Result.{result_err}
use Rattle.std.proofs.lemmas.Result.{on_ok_weaker}
use Rattle.pz_rules.specs.Runs.{acted}
use Rattle.pz_term_simulator.specs.Simulations.{model_in, clock_in}
use Rattle.pz_watch.specs.SpotView.{point_of}
use Rattle.pz_watch_points.specs.EventPoints.{action_point, event_point, points_of}
use Rattle.pz_run_playing.proofs.Simulated.{clock_of_actions, named_here}
use Rattle.pz_run_playing.proofs.Heard.{fed_in_order, fed_judged, fed_wrote, line_cut}
use Rattle.pz_run_playing.proofs.Written.{halted_so}
use Rattle.pz_run_playing.proofs.hearing.judge_offered.Goals as goal

pub spot-requires : goal.spot-requires
spot-requires g c =
    let s = g.S.Simulator.simulation c.args.sim.now in
    c.rules_are_known.ensures.processes_there c.net.result.now c.args.action.now (named_here c.rules_are_known.ensures s c.args.number c.args.action.now c.net.result.now c.requires.offered c.net.ensures)

pub returns-in_err-tell_offered-clause-wrote : goal.returns-in_err-tell_offered-clause-wrote
returns-in_err-tell_offered-clause-wrote g c = λ ws past judged up.
    let s = g.S.Simulator.simulation c.args.sim.now in
    rw (halted_so c.from_residual.result c.in_err-tell_offered.field-0.0 c.from_residual.ensures.1)
    (line_cut (model_in s) past (acted (clock_in s) c.args.offers c.args.number c.args.action.now) c.rules_are_known.ensures ws (g.W.Sink.state c.args.out.now) (g.W.Sink.state c.tell_offered.new.out) c.in_err-tell_offered.field-0.0 c.in_err-tell_offered.ensures)

pub returns-clause-wrote : goal.returns-clause-wrote
returns-clause-wrote g c = λ ws past judged up.
    let s = g.S.Simulator.simulation c.args.sim.now in
    let e = acted (clock_in s) c.args.offers c.args.number c.args.action.now in
    let x = point_of c.spot.result in
    let clock = clock_of_actions s c.args.offers c.clock.result c.requires.moment c.clock.ensures in
    let is : x ≡ event_point (model_in s) e = c.spot.ensures (model_in s) c.net.ensures ∙ ap (λ n. action_point (model_in s) n c.args.action.now) clock in
    let order = fed_in_order (model_in s) past e x is (clock_in s) refl up in
    fed_wrote (model_in s) past e x is c.rules_are_known.ensures ws (g.W.Sink.state c.args.out.now) (g.W.Sink.state c.tell_offered.new.out) (g.W.Sink.state c.judge.new.out) (result_err c.judge.result)
    c.in_ok-tell_offered.ensures (c.judge.ensures.wrote ws (points_of (model_in s) past) judged order)

pub returns-clause-judged : goal.returns-clause-judged
returns-clause-judged g c = λ ws past judged up.
    let s = g.S.Simulator.simulation c.args.sim.now in
    let e = acted (clock_in s) c.args.offers c.args.number c.args.action.now in
    let x = point_of c.spot.result in
    let clock = clock_of_actions s c.args.offers c.clock.result c.requires.moment c.clock.ensures in
    let is : x ≡ event_point (model_in s) e = c.spot.ensures (model_in s) c.net.ensures ∙ ap (λ n. action_point (model_in s) n c.args.action.now) clock in
    let order = fed_in_order (model_in s) past e x is (clock_in s) refl up in
    on_ok_weaker c.judge.result (fed_judged (model_in s) past e x is ws c.judge.new.self) (c.judge.ensures.judged ws (points_of (model_in s) past) judged order)
