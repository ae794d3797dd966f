use Rattle.std.proofs.Common.{◌≡◌, subst}
use Rattle.std.specs.Prelude.{IfOk}
use Rattle.pz_rules.specs.Settings.{Setting}
use Rattle.pz_watch_points.specs.pz_trace.TraceText.{trace_header}
use Rattle.pz_run_playing.specs.Policies.{resolver_of, policy_of}
use Rattle.pz_run_playing.proofs.WholeRuns.{its_setting, plays_trace}
use Rattle.pz_run_playing.proofs.runs.play_trace.Goals as goal

pub returns : goal.returns
returns g c = λ setting starts.
    let same = its_setting setting (g.S.Simulator.simulation c.args.sim.now) starts in
    let line = subst (λ (x : Setting). IfOk c.header_line-header.result (λ line. line.items ≡ trace_header x)) same c.header_line-header.ensures in
    plays_trace setting (policy_of (resolver_of c.args.choice) c.args.limits) (g.S.Simulator.simulation c.play_under.new.sim)
    (g.W.Sink.state c.args.out.now) (g.W.Sink.state c.play_under.new.out) c.play_under.result (c.play_under.ensures setting (trace_header setting) starts line)
