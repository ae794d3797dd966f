use Rattle.std.proofs.Common.{[], Ok}
use Rattle.pz_term_simulator.specs.Simulations.{setting_in}
use Rattle.pz_run_playing.specs.Playing.{summary}
use Rattle.pz_run_playing.specs.devices.Hearing.{silently}
use Rattle.pz_run_playing.specs.Policies.{resolver_of, policy_of}
use Rattle.pz_run_playing.proofs.WholeRuns.{at_its_start, plays_there, through_named, summary_broken, summary_cut, summary_told}
use Rattle.pz_run_playing.proofs.runs.play_summary.Goals as goal

pub play-played-requires-clause-starts : goal.play-played-requires-clause-starts
play-played-requires-clause-starts g c = at_its_start c.requires.starts.0 (g.S.Simulator.simulation c.args.sim.now) c.requires.starts.1

pub returns-in_err-played : goal.returns-in_err-played
returns-in_err-played g c = λ setting starts.
    let s = g.S.Simulator.simulation c.args.sim.now in
    let t = g.S.Simulator.simulation c.play-played.new.sim in
    let policy = policy_of (resolver_of c.args.choice) c.args.limits in
    let before = g.W.Sink.state c.args.out.now in
    let now = g.W.Sink.state c.play-played.new.out in
    plays_there setting s policy summary t before now c.from_residual.result starts
    (summary_broken c.rules_are_known.ensures (setting_in s) policy t before now now c.in_err-played.field-0.0 c.from_residual.result c.from_residual.ensures.1 (c.in_err-played.ensures.broken [] silently c.new.ensures.items tt))

pub tell_summary-requires : goal.tell_summary-requires
tell_summary-requires g c =
    let policy = policy_of (resolver_of c.args.choice) c.args.limits in
    through_named c.rules_are_known.ensures (setting_in (g.S.Simulator.simulation c.args.sim.now)) policy [] silently (g.S.Simulator.simulation c.play-played.new.sim)
    (g.W.Sink.state c.args.out.now) (g.W.Sink.state c.play-played.new.out) c.play-played.new.listener c.in_ok-played.played (c.in_ok-played.ensures.through [] silently c.new.ensures.items tt)

pub returns-in_err-tell_summary : goal.returns-in_err-tell_summary
returns-in_err-tell_summary g c = λ setting starts.
    let s = g.S.Simulator.simulation c.args.sim.now in
    let t = g.S.Simulator.simulation c.play-played.new.sim in
    let policy = policy_of (resolver_of c.args.choice) c.args.limits in
    let before = g.W.Sink.state c.args.out.now in
    let now = g.W.Sink.state c.tell_summary.new.out in
    let x = c.in_ok-played.ensures.through [] silently c.new.ensures.items tt in
    plays_there setting s policy summary t before now c.from_residual-in_err-tell_summary.result starts
    (summary_cut c.rules_are_known.ensures (setting_in s) policy t before (g.W.Sink.state c.play-played.new.out) now c.play-played.new.listener c.in_ok-played.played x c.in_err-tell_summary.field-0.0
    c.from_residual-in_err-tell_summary.result c.from_residual-in_err-tell_summary.ensures.1 (c.in_err-tell_summary.ensures (setting_in s) x.run.end x.run.standing x.arrives))

pub returns : goal.returns
returns g c = λ setting starts.
    let s = g.S.Simulator.simulation c.args.sim.now in
    let t = g.S.Simulator.simulation c.play-played.new.sim in
    let policy = policy_of (resolver_of c.args.choice) c.args.limits in
    let before = g.W.Sink.state c.args.out.now in
    let now = g.W.Sink.state c.tell_summary.new.out in
    let x = c.in_ok-played.ensures.through [] silently c.new.ensures.items tt in
    plays_there setting s policy summary t before now (Ok c.in_ok-played.played.finale) starts
    (summary_told c.rules_are_known.ensures (setting_in s) policy t before (g.W.Sink.state c.play-played.new.out) now c.play-played.new.listener c.in_ok-played.played x (c.in_ok-tell_summary.ensures (setting_in s) x.run.end x.run.standing x.arrives))
