use Rattle.std.proofs.Common.{◌+◌, ◌-◌, sym, subst, ap, ◌∙◌, refl, arith}
use Rattle.pz_rules.specs.declared.moment.Moment.{Moment}
use Rattle.pz_rules.specs.ChosenRuns.{decided}
use Rattle.pz_term_simulator.specs.Simulations.{IsMomentOf, clock_in}
use Rattle.pz_run_playing.specs.Policies.{policy_of}
use Rattle.pz_run_playing.proofs.Simulated.{never_broken}
use Rattle.pz_run_playing.proofs.Goings.{gone_none, gone_on, gone_chosen, room_of_one, room_of_all, going_none, going_passed, going_cut, going_acted, acting_cut, going_ended}
use Rattle.pz_run_playing.proofs.Written.{err_is}
use Rattle.pz_run_playing.proofs.playing.play_on.Goals as goal

pub actions-init : goal.actions-init
actions-init g c =
    let s = g.S.Simulator.simulation c.args.sim.now in record {
      gone = gone_none s 0 c.requires.ready (omega arith);
      room = room_of_all c.args.limits.steps s c.requires.room;
      stands_at = λ r begun. begun;
      going = λ r manner begun heard. going_none c.rules_are_known.ensures (policy_of r c.args.limits) manner s (g.W.Sink.state c.args.out.now) c.args.listener.now heard;
    }

pub pass_time-requires-clause-room : goal.pass_time-requires-clause-room
pass_time-requires-clause-room g c = c.rules_are_known.ensures.less_room (c.args.limits.steps - c.actions.actions) 0 (g.S.Simulator.simulation c.actions.sim) (omega arith) c.actions.invariant.room

pub decide-requires-clause-known : goal.decide-requires-clause-known
decide-requires-clause-known g c = never_broken (g.S.Simulator.simulation c.pass_time.new.sim) c.moment.result c.in_ok-passes.ensures.gone.ready c.moment.ensures

pub returns-in_err-passes-clause-cut : goal.returns-in_err-passes-clause-cut
returns-in_err-passes-clause-cut g c =
    rw (err_is c.from_residual.result c.in_err-passes.field-0.0 c.from_residual.ensures.1)
    (λ r manner begun heard.
    going_cut c.rules_are_known.ensures (policy_of r c.args.limits) manner (g.S.Simulator.simulation c.args.sim.now) (g.W.Sink.state c.args.out.now)
    c.actions.actions c.actions.passes (g.S.Simulator.simulation c.actions.sim) c.actions.invariant.gone c.actions.listener (g.W.Sink.state c.actions.out) (c.actions.invariant.going r manner begun heard)
    (g.W.Sink.state c.pass_time.new.out) c.in_err-passes.field-0.0 c.in_err-passes.ensures.cut)

pub returns-in-Stop-clause-ended : goal.returns-in-Stop-clause-ended
returns-in-Stop-clause-ended g c = λ r manner begun heard.
    let s = g.S.Simulator.simulation c.args.sim.now in
    let here = g.S.Simulator.simulation c.actions.sim in
    let t = g.S.Simulator.simulation c.pass_time.new.sim in
    let passed = c.in_ok-passes.ensures in
    let x = going_passed c.rules_are_known.ensures (policy_of r c.args.limits) manner s (g.W.Sink.state c.args.out.now)
    c.actions.actions c.actions.passes here c.actions.invariant.gone c.actions.listener (g.W.Sink.state c.actions.out) (c.actions.invariant.going r manner begun heard)
    c.in_ok-passes.passes t c.pass_time.new.listener (g.W.Sink.state c.pass_time.new.out) passed.passing in
    going_ended c.rules_are_known.ensures (policy_of r c.args.limits) manner s (g.W.Sink.state c.args.out.now)
    c.actions.actions c.in_ok-passes.passes t (gone_on s here t c.actions.passes c.in_ok-passes.passes c.actions.invariant.gone passed.gone) c.pass_time.new.listener (g.W.Sink.state c.pass_time.new.out) x
    c.moment.result (record { finale = c.in-Stop.finale; actions = c.actions.actions; passes = c.in_ok-passes.passes }) refl refl c.moment.ensures
    (c.in-Stop.ensures.decided r (clock_in t) (c.actions.invariant.stands_at r begun) (λ d is. passed.held d (subst (λ (m : Moment). IsMomentOf t m) is c.moment.ensures)))

pub returns-in_err-act-in-Take-clause-cut : goal.returns-in_err-act-in-Take-clause-cut
returns-in_err-act-in-Take-clause-cut g c =
    rw (err_is c.from_residual-in_err-act-in-Take.result c.in_err-act-in-Take.field-0.0 c.from_residual-in_err-act-in-Take.ensures.1)
    (λ r manner begun heard.
    let s = g.S.Simulator.simulation c.args.sim.now in
    let here = g.S.Simulator.simulation c.actions.sim in
    let t = g.S.Simulator.simulation c.pass_time.new.sim in
    let policy = policy_of r c.args.limits in
    let takes = c.in-Take.ensures.takes in
    let passed = c.in_ok-passes.ensures in
    let x = going_passed c.rules_are_known.ensures policy manner s (g.W.Sink.state c.args.out.now)
    c.actions.actions c.actions.passes here c.actions.invariant.gone c.actions.listener (g.W.Sink.state c.actions.out) (c.actions.invariant.going r manner begun heard)
    c.in_ok-passes.passes t c.pass_time.new.listener (g.W.Sink.state c.pass_time.new.out) passed.passing in
    let decides = c.in-Take.ensures.decided r (clock_in t) (c.actions.invariant.stands_at r begun) (λ d is. passed.held d (subst (λ (m : Moment). IsMomentOf t m) is c.moment.ensures)) in
    acting_cut c.rules_are_known.ensures policy manner s (g.W.Sink.state c.args.out.now)
    c.actions.actions c.in_ok-passes.passes t (gone_on s here t c.actions.passes c.in_ok-passes.passes c.actions.invariant.gone passed.gone) c.pass_time.new.listener (g.W.Sink.state c.pass_time.new.out) x
    c.in-Take.offers c.in-Take.number
    (subst (λ (m : Moment). IsMomentOf t m) takes.moment_is c.moment.ensures) (ap (decided policy c.actions.actions (clock_in t)) (sym takes.moment_is) ∙ decides)
    takes.within (g.W.Sink.state c.act.new.out) c.in_err-act-in-Take.field-0.0 (λ a offer h past hears. c.in_err-act-in-Take.ensures.wrote a h past offer hears))

pub actions-preserved : goal.actions-preserved
actions-preserved g c =
    let s = g.S.Simulator.simulation c.args.sim.now in
    let here = g.S.Simulator.simulation c.actions.sim in
    let t = g.S.Simulator.simulation c.pass_time.new.sim in
    let u = g.S.Simulator.simulation c.act.new.sim in
    let takes = c.in-Take.ensures.takes in
    let passed = c.in_ok-passes.ensures in
    let gone = gone_on s here t c.actions.passes c.in_ok-passes.passes c.actions.invariant.gone passed.gone in
    let done = c.in_ok-act-in-Take.ensures in record {
      gone = gone_chosen c.rules_are_known.ensures s t u c.in_ok-passes.passes c.in-Take.number gone done.chooses done.setting;
      room =
          c.rules_are_known.ensures.choices_take c.in-Take.number (c.args.limits.steps - (c.actions.actions + 1)) t u
          (room_of_one c.args.limits.steps c.actions.actions t takes.more (passed.room (c.args.limits.steps - c.actions.actions) c.actions.invariant.room)) done.chooses;
      stands_at = λ r begun. c.in-Take.ensures.goes_on r (c.actions.invariant.stands_at r begun);
      going = λ r manner begun heard.
          let policy = policy_of r c.args.limits in
          let x = going_passed c.rules_are_known.ensures policy manner s (g.W.Sink.state c.args.out.now)
          c.actions.actions c.actions.passes here c.actions.invariant.gone c.actions.listener (g.W.Sink.state c.actions.out) (c.actions.invariant.going r manner begun heard)
          c.in_ok-passes.passes t c.pass_time.new.listener (g.W.Sink.state c.pass_time.new.out) passed.passing in
          let decides = c.in-Take.ensures.decided r (clock_in t) (c.actions.invariant.stands_at r begun) (λ d is. passed.held d (subst (λ (m : Moment). IsMomentOf t m) is c.moment.ensures)) in
          going_acted c.rules_are_known.ensures policy manner s (g.W.Sink.state c.args.out.now)
          c.actions.actions c.in_ok-passes.passes t gone c.pass_time.new.listener (g.W.Sink.state c.pass_time.new.out) x c.in-Take.offers c.in-Take.number
          (subst (λ (m : Moment). IsMomentOf t m) takes.moment_is c.moment.ensures) (ap (decided policy c.actions.actions (clock_in t)) (sym takes.moment_is) ∙ decides)
          u c.act.new.listener (g.W.Sink.state c.act.new.out) done.chooses
          (λ a offer. record { wrote = λ h past hears. done.wrote a h past offer hears; heard = λ h past hears. done.heard a h past offer hears });
    }
