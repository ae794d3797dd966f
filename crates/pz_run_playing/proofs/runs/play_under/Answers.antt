use Rattle.std.proofs.Common.{Ok}
use Rattle.pz_term_simulator.specs.Simulations.{setting_in}
use Rattle.pz_run_playing.specs.devices.Hearing.{in_lines}
use Rattle.pz_run_playing.specs.Policies.{resolver_of, policy_of}
use Rattle.pz_run_playing.proofs.WholeRuns.{at_its_start, some_text, under_there, through_named, under_broken, last_cut, last_told}
use Rattle.pz_run_playing.proofs.runs.play_under.Goals as goal

pub play-played-requires-clause-starts : goal.play-played-requires-clause-starts
play-played-requires-clause-starts g c = at_its_start c.requires.starts.0 (g.S.Simulator.simulation c.args.sim.now) c.requires.starts.1

pub returns-in_err-played : goal.returns-in_err-played
returns-in_err-played g c = λ setting text starts is.
    let s = g.S.Simulator.simulation c.args.sim.now in
    let t = g.S.Simulator.simulation c.play-played.new.sim in
    let policy = policy_of (resolver_of c.args.choice) c.args.limits in
    let before = g.W.Sink.state c.args.out.now in
    let now = g.W.Sink.state c.play-played.new.out in
    under_there setting s policy text t before now c.from_residual.result starts
    (under_broken c.rules_are_known.ensures (setting_in s) policy text t before now now c.in_err-played.field-0.0 c.from_residual.result c.from_residual.ensures.1 (c.in_err-played.ensures.broken text in_lines is tt))

pub tell_last-requires : goal.tell_last-requires
tell_last-requires g c =
    let policy = policy_of (resolver_of c.args.choice) c.args.limits in
    let text = some_text (λ line. line.items) c.args.header in
    through_named c.rules_are_known.ensures (setting_in (g.S.Simulator.simulation c.args.sim.now)) policy text.0 in_lines (g.S.Simulator.simulation c.play-played.new.sim)
    (g.W.Sink.state c.args.out.now) (g.W.Sink.state c.play-played.new.out) c.play-played.new.listener c.in_ok-played.played (c.in_ok-played.ensures.through text.0 in_lines text.1 tt)

pub returns-in_err-tell_last : goal.returns-in_err-tell_last
returns-in_err-tell_last g c = λ setting text starts is.
    let s = g.S.Simulator.simulation c.args.sim.now in
    let t = g.S.Simulator.simulation c.play-played.new.sim in
    let policy = policy_of (resolver_of c.args.choice) c.args.limits in
    let before = g.W.Sink.state c.args.out.now in
    let now = g.W.Sink.state c.tell_last.new.out in
    let x = c.in_ok-played.ensures.through text in_lines is tt in
    under_there setting s policy text t before now c.from_residual-in_err-tell_last.result starts
    (last_cut c.rules_are_known.ensures (setting_in s) policy text t before (g.W.Sink.state c.play-played.new.out) now c.play-played.new.listener c.in_ok-played.played x c.in_err-tell_last.field-0.0
    c.from_residual-in_err-tell_last.result c.from_residual-in_err-tell_last.ensures.1 (c.in_err-tell_last.ensures (setting_in s) x.run.end x.run.standing x.arrives))

pub returns : goal.returns
returns g c = λ setting text starts is.
    let s = g.S.Simulator.simulation c.args.sim.now in
    let t = g.S.Simulator.simulation c.play-played.new.sim in
    let policy = policy_of (resolver_of c.args.choice) c.args.limits in
    let before = g.W.Sink.state c.args.out.now in
    let now = g.W.Sink.state c.tell_last.new.out in
    let x = c.in_ok-played.ensures.through text in_lines is tt in
    under_there setting s policy text t before now (Ok c.in_ok-played.played.finale) starts
    (last_told c.rules_are_known.ensures (setting_in s) policy text t before (g.W.Sink.state c.play-played.new.out) now c.play-played.new.listener c.in_ok-played.played x (c.in_ok-tell_last.ensures (setting_in s) x.run.end x.run.standing x.arrives))
