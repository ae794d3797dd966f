use Rattle.std.proofs.Common.{true, false, arith}
use Rattle.pz_run_playing.proofs.Simulated.{clock_of_ready}
use Rattle.pz_run_playing.proofs.Steps.{fewer_pending, clock_passed, ready_passed}
use Rattle.pz_run_playing.proofs.Goings.{asked_there, held_now, gone_none, gone_passed, passing_none, passing_more, passing_cut}
use Rattle.pz_run_playing.proofs.Written.{err_is}
use Rattle.pz_run_playing.proofs.playing.pass_time.Goals as goal

pub passings-init : goal.passings-init
passings-init g c =
    let s = g.S.Simulator.simulation c.args.sim.now in (
      gone_none s c.args.passes c.requires.ready c.requires.within,
      λ manner past heard. passing_none c.rules_are_known.ensures c.args.until manner past s (g.W.Sink.state c.args.out.now) c.args.passes c.args.listener.now heard,
      c.clock-clock.ensures,
      λ left room. room,
    )

pub returns-then-is_beyond-clause-held : goal.returns-then-is_beyond-clause-held
returns-then-is_beyond-clause-held g c =
    let s = g.S.Simulator.simulation c.passings.sim in
    let clock = clock_of_ready s c.passings.clock c.passings.invariant.0.ready c.passings.invariant.2 in
    held_now c.rules_are_known.ensures.one_moment_of c.args.until s c.in-Time.time c.in-Time.ensures
    (asked_there c.args.until s c.passings.clock c.in-Time.time c.is_beyond.result true clock c.is_beyond.ensures c.if-is_beyond.true)

pub pass-requires-clause-low : goal.pass-requires-clause-low
pass-requires-clause-low g c = c.rules_are_known.ensures.room_is_low 0 c.in-Time.time (g.S.Simulator.simulation c.passings.sim) (c.passings.invariant.3 0 c.requires.room) c.in-Time.ensures

pub returns-in_err-pass-clause-cut : goal.returns-in_err-pass-clause-cut
returns-in_err-pass-clause-cut g c =
    let s = g.S.Simulator.simulation c.passings.sim in
    let clock = clock_of_ready s c.passings.clock c.passings.invariant.0.ready c.passings.invariant.2 in
    let within = asked_there c.args.until s c.passings.clock c.in-Time.time c.is_beyond.result false clock c.is_beyond.ensures c.if-is_beyond.false in
    rw (err_is c.from_residual.result c.in_err-pass.field-0.0 c.from_residual.ensures.1)
    (λ policy actions manner past same heard.
    passing_cut c.rules_are_known.ensures c.args.until manner past (g.S.Simulator.simulation c.args.sim.now) (g.W.Sink.state c.args.out.now) c.args.passes
    c.passings.all s c.passings.invariant.0 c.passings.listener (g.W.Sink.state c.passings.out) (c.passings.invariant.1 manner past heard)
    c.in-Time.time c.in-Time.ensures within (g.W.Sink.state c.pass.new.out) c.in_err-pass.field-0.0 c.in_err-pass.ensures.wrote policy actions same)

pub overflow_add-all : goal.overflow_add-all
overflow_add-all g c =
    let s = g.S.Simulator.simulation c.passings.sim in
    let t = g.S.Simulator.simulation c.pass.new.sim in
    let known = c.rules_are_known.ensures in
    let ready = c.passings.invariant.0.ready in
    let later = clock_passed known s t ready c.in_ok-pass.ensures.passes in
    let clock = clock_of_ready t c.clock-clock-in-passings.result (ready_passed known s t ready c.in_ok-pass.ensures.passes) c.clock-clock-in-passings.ensures in
    omega (arith, c.passings.invariant.0.within, later, clock, c.clock-clock-in-passings.type_inv)

pub passings-smaller : goal.passings-smaller
passings-smaller g c = fewer_pending c.rules_are_known.ensures _ _ c.passings.invariant.0.ready c.in_ok-pass.ensures.passes

pub passings-preserved : goal.passings-preserved
passings-preserved g c =
    let s = g.S.Simulator.simulation c.passings.sim in
    let clock = clock_of_ready s c.passings.clock c.passings.invariant.0.ready c.passings.invariant.2 in
    let within = asked_there c.args.until s c.passings.clock c.in-Time.time c.is_beyond.result false clock c.is_beyond.ensures c.if-is_beyond.false in
    let t = g.S.Simulator.simulation c.pass.new.sim in
    let first = g.S.Simulator.simulation c.args.sim.now in
    let done = c.in_ok-pass.ensures in (
      gone_passed c.rules_are_known.ensures first s t c.passings.all c.passings.invariant.0 done.passes done.setting,
      λ manner past heard.
          passing_more c.rules_are_known.ensures c.args.until manner past first (g.W.Sink.state c.args.out.now) c.args.passes
          c.passings.all s c.passings.invariant.0 c.passings.listener (g.W.Sink.state c.passings.out) (c.passings.invariant.1 manner past heard)
          c.in-Time.time c.in-Time.ensures within t (g.W.Sink.state c.pass.new.out) c.pass.new.listener done.passes (record { wrote = done.wrote; heard = done.heard }),
      c.clock-clock-in-passings.ensures,
      λ left room. c.rules_are_known.ensures.passings_take left s t (c.passings.invariant.3 left room) done.passes done.short,
    )
