use Rattle.std.proofs.Common.{refl}
use Rattle.std.specs.Result.{result_err}
use Rattle.std.proofs.lemmas.Result.{on_ok_weaker}
use Rattle.pz_rules.specs.Runs.{passed}
use Rattle.pz_watch.specs.SpotView.{point_of}
use Rattle.pz_watch_points.specs.EventPoints.{points_of}
use Rattle.pz_run_playing.proofs.Heard.{fed_in_order, fed_judged, fed_wrote, line_cut}
use Rattle.pz_run_playing.proofs.Written.{halted_so}
use Rattle.pz_run_playing.proofs.hearing.judge_passing.Goals as goal

pub returns-in_err-tell_passing-clause-wrote : goal.returns-in_err-tell_passing-clause-wrote
returns-in_err-tell_passing-clause-wrote g c = λ m ws past judged up.
    rw (halted_so c.from_residual.result c.in_err-tell_passing.field-0.0 c.from_residual.ensures.1)
    (line_cut m past (passed c.args.clock c.args.time) c.rules_are_known.ensures ws (g.W.Sink.state c.args.out.now) (g.W.Sink.state c.tell_passing.new.out) c.in_err-tell_passing.field-0.0 c.in_err-tell_passing.ensures)

pub returns-clause-wrote : goal.returns-clause-wrote
returns-clause-wrote g c = λ m ws past judged up.
    let e = passed c.args.clock c.args.time in
    let x = point_of c.passing.result in
    let order = fed_in_order m past e x c.passing.ensures c.args.clock refl up in
    fed_wrote m past e x c.passing.ensures c.rules_are_known.ensures ws (g.W.Sink.state c.args.out.now) (g.W.Sink.state c.tell_passing.new.out) (g.W.Sink.state c.judge.new.out) (result_err c.judge.result)
    c.in_ok-tell_passing.ensures (c.judge.ensures.wrote ws (points_of m past) judged order)

pub returns-clause-judged : goal.returns-clause-judged
returns-clause-judged g c = λ m ws past judged up.
    let e = passed c.args.clock c.args.time in
    let x = point_of c.passing.result in
    let order = fed_in_order m past e x c.passing.ensures c.args.clock refl up in
    on_ok_weaker c.judge.result (fed_judged m past e x c.passing.ensures ws c.judge.new.self) (c.judge.ensures.judged ws (points_of m past) judged order)
