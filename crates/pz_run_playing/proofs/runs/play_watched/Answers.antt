use Rattle.std.proofs.Common.{Ok}
use Rattle.pz_term_simulator.specs.Simulations.{setting_in, model_in}
use Rattle.pz_watch_points.specs.pz_trace.TraceText.{trace_header}
use Rattle.pz_run_playing.specs.Policies.{resolver_of, policy_of}
use Rattle.pz_run_playing.specs.devices.Hearing.{with_watches}
use Rattle.pz_run_playing.proofs.WholeRuns.{at_its_start, through_named, watched_broken, watched_cut, watched_told, watched_there}
use Rattle.pz_run_playing.proofs.runs.play_watched.Goals as goal

pub play-played-requires-clause-starts : goal.play-played-requires-clause-starts
play-played-requires-clause-starts g c = at_its_start c.requires.starts.0 (g.S.Simulator.simulation c.args.sim.now) c.requires.starts.1

pub returns-in_err-finale : goal.returns-in_err-finale
returns-in_err-finale g c = λ setting ws starts stand.
    let s = g.S.Simulator.simulation c.args.sim.now in
    let t = g.S.Simulator.simulation c.play-played.new.sim in
    let policy = policy_of (resolver_of c.args.choice) c.args.limits in
    let before = g.W.Sink.state c.args.out.now in
    let now = g.W.Sink.state c.play-played.new.out in
    watched_there setting s policy ws t before now c.from_residual.result starts
    (watched_broken c.rules_are_known.ensures (setting_in s) policy ws t before now now c.in_err-finale.field-0.0 c.from_residual.result c.from_residual.ensures.1
    (c.in_err-finale.ensures.broken (trace_header (setting_in s)) (with_watches ws) c.header_line-header.ensures (c.new.ensures ws stand)))

pub tell_last-requires : goal.tell_last-requires
tell_last-requires g c =
    let policy = policy_of (resolver_of c.args.choice) c.args.limits in
    let ws = c.requires.stand.0 in
    through_named c.rules_are_known.ensures (setting_in (g.S.Simulator.simulation c.args.sim.now)) policy (trace_header (setting_in (g.S.Simulator.simulation c.args.sim.now))) (with_watches ws) (g.S.Simulator.simulation c.play-played.new.sim)
    (g.W.Sink.state c.args.out.now) (g.W.Sink.state c.play-played.new.out) c.play-played.new.listener c.in_ok-finale.field-0
    (c.in_ok-finale.ensures.through (trace_header (setting_in (g.S.Simulator.simulation c.args.sim.now))) (with_watches ws) c.header_line-header.ensures (c.new.ensures ws c.requires.stand.1))

pub returns-in_err-tell_last : goal.returns-in_err-tell_last
returns-in_err-tell_last g c = λ setting ws starts stand.
    let s = g.S.Simulator.simulation c.args.sim.now in
    let t = g.S.Simulator.simulation c.play-played.new.sim in
    let policy = policy_of (resolver_of c.args.choice) c.args.limits in
    let before = g.W.Sink.state c.args.out.now in
    let mid = g.W.Sink.state c.play-played.new.out in
    let now = g.W.Sink.state c.tell_last.new.out in
    let x = c.in_ok-finale.ensures.through (trace_header (setting_in (g.S.Simulator.simulation c.args.sim.now))) (with_watches ws) c.header_line-header.ensures (c.new.ensures ws stand) in
    watched_there setting s policy ws t before now c.from_residual-in_err-tell_last.result starts
    (watched_cut c.rules_are_known.ensures (setting_in s) policy ws t before mid now c.play-played.new.listener c.in_ok-finale.field-0 x c.in_err-tell_last.field-0.0
    c.from_residual-in_err-tell_last.result c.from_residual-in_err-tell_last.ensures.1 (c.in_err-tell_last.ensures (setting_in s) x.run.end x.run.standing x.arrives))

pub returns : goal.returns
returns g c = λ setting ws starts stand.
    let s = g.S.Simulator.simulation c.args.sim.now in
    let t = g.S.Simulator.simulation c.play-played.new.sim in
    let policy = policy_of (resolver_of c.args.choice) c.args.limits in
    let before = g.W.Sink.state c.args.out.now in
    let mid = g.W.Sink.state c.play-played.new.out in
    let now = g.W.Sink.state c.tell_last.new.out in
    let x = c.in_ok-finale.ensures.through (trace_header (setting_in (g.S.Simulator.simulation c.args.sim.now))) (with_watches ws) c.header_line-header.ensures (c.new.ensures ws stand) in
    watched_there setting s policy ws t before now (Ok (record { finale = c.in_ok-finale.field-0.finale; broken = c.is_broken-broken.result })) starts
    (watched_told c.rules_are_known.ensures (setting_in s) policy ws t before mid now c.play-played.new.listener c.in_ok-finale.field-0 x c.is_broken-broken.result
    (λ past hears. c.is_broken-broken.ensures (model_in s) ws past hears) (c.in_ok-tell_last.ensures (setting_in s) x.run.end x.run.standing x.arrives))
