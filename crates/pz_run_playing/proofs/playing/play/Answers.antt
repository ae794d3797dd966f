use Rattle.std.proofs.Common.{◌≡◌, ℕ, List, [], Some, None, subst, ◌∙◌}
use Rattle.std.specs.Prelude.{IfOk}
use Rattle.std.proofs.lemmas.Result.{IfOk-weaker, IfErr-weaker}
use Rattle.pz_io.specs.Writing.{Wrote}
use Rattle.pz_choice.specs.Resolvers.{Resolver}
use Rattle.pz_choice.specs.Choosers.{Stands}
use Rattle.pz_term_simulator.specs.Simulations.{setting_in, model_in, clock_in}
use Rattle.pz_run_playing.specs.Policies.{resolver_of, policy_of}
use Rattle.pz_run_playing.specs.devices.Hearing.{Manner, saying, Hears, HasHeard}
use Rattle.pz_run_playing.specs.devices.Going.{CutShort, Ended, PlayedThrough, BrokenOff}
use Rattle.pz_rules.specs.pz_syntax.ModelText.{HasFewMarks}
use Rattle.pz_rules.specs.pz_classes_rules.Soundness.{IsSound}
use Rattle.pz_rules.specs.Clocks.{most_actions}
use Rattle.pz_run_playing.proofs.Heard.{heard_none}
use Rattle.pz_run_playing.proofs.WholeRuns.{start_in, ready_at, header_cut, lines_cut, lines_ended}
use Rattle.pz_run_playing.proofs.Written.{err_is}
use Rattle.pz_run_playing.proofs.playing.play.Goals as goal

pub returns-in_err-tell_header-clause-broken : goal.returns-in_err-tell_header-clause-broken
returns-in_err-tell_header-clause-broken g c =
    let known = c.rules_are_known.ensures in
    let s = g.S.Simulator.simulation c.args.sim.now in
    let start = start_in (setting_in s) s c.requires.starts in
    let sound = subst IsSound (c.model-model.ensures.is ∙ c.checked.ensures) c.model-model.ensures.sound in
    let before = g.W.Sink.state c.args.out.now in
    let mid = g.W.Sink.state c.tell_header.new.out in
    rw (err_is c.from_residual.result c.in_err-tell_header.field-0.0 c.from_residual.ensures.1)
    (λ text manner is hears.
    header_cut known (policy_of (resolver_of c.args.choice) c.args.limits) text manner s start before mid
    (ready_at known (setting_in s) s sound start) c.in_err-tell_header.field-0.0 (c.in_err-tell_header.ensures text is))

pub play_on-played-requires-clause-ready : goal.play_on-played-requires-clause-ready
play_on-played-requires-clause-ready g c =
    let s = g.S.Simulator.simulation c.args.sim.now in
    let sound = subst IsSound (c.model-model.ensures.is ∙ c.checked.ensures) c.model-model.ensures.sound in
    ready_at c.rules_are_known.ensures (setting_in s) s sound (start_in (setting_in s) s c.requires.starts)

pub play_on-played-requires-clause-room : goal.play_on-played-requires-clause-room
play_on-played-requires-clause-room g c =
    let s = g.S.Simulator.simulation c.args.sim.now in
    let same = c.model-model.ensures.is ∙ c.checked.ensures in
    c.rules_are_known.ensures.less_room most_actions c.args.limits.steps s c.requires.few
    (c.rules_are_known.ensures.room_at_start (setting_in s) s (subst IsSound same c.model-model.ensures.sound) (subst HasFewMarks same c.model-model.ensures.few) c.requires.opens c.requires.starts)

pub returns-clause-through : goal.returns-clause-through
returns-clause-through g c =
    let s = g.S.Simulator.simulation c.args.sim.now in
    let before = g.W.Sink.state c.args.out.now in
    let mid = g.W.Sink.state c.tell_header.new.out in
    let now = g.W.Sink.state c.play_on-played.new.out in
    let t = g.S.Simulator.simulation c.play_on-played.new.sim in
    let listener = c.args.listener.now in
    let later = c.play_on-played.new.listener in
    let policy = policy_of (resolver_of c.args.choice) c.args.limits in
    IfOk-weaker c.play_on-played.result
    (λ played. (r : Resolver) (manner : Manner) → Stands c.chooser_of-chooser.result r 0 → HasHeard (model_in s) manner [] (clock_in s) listener → Ended (policy_of r c.args.limits) manner s t mid now later played)
    (λ played. (text : List ℕ) (manner : Manner) → IfOk c.args.header (λ line. line.items ≡ text) → Hears (model_in s) manner [] listener → PlayedThrough (setting_in s) policy text manner t before now later played)
    (λ played ended text manner is hears.
    lines_ended c.rules_are_known.ensures policy text manner s (start_in (setting_in s) s c.requires.starts) before mid now (c.in_ok-tell_header.ensures text is) t later played
    (ended (resolver_of c.args.choice) manner c.chooser_of-chooser.ensures (heard_none (model_in s) manner (clock_in s) listener hears))) c.play_on-played.ensures.ended

pub returns-clause-broken : goal.returns-clause-broken
returns-clause-broken g c =
    let s = g.S.Simulator.simulation c.args.sim.now in
    let before = g.W.Sink.state c.args.out.now in
    let mid = g.W.Sink.state c.tell_header.new.out in
    let now = g.W.Sink.state c.play_on-played.new.out in
    let listener = c.args.listener.now in
    let policy = policy_of (resolver_of c.args.choice) c.args.limits in
    IfErr-weaker c.play_on-played.result
    (λ halt. (r : Resolver) (manner : Manner) → Stands c.chooser_of-chooser.result r 0 → HasHeard (model_in s) manner [] (clock_in s) listener → CutShort (policy_of r c.args.limits) (saying (model_in s) manner) 0 [] s mid now halt)
    (λ halt. (text : List ℕ) (manner : Manner) → IfOk c.args.header (λ line. line.items ≡ text) → Hears (model_in s) manner [] listener → BrokenOff (setting_in s) policy text manner before now halt)
    (λ halt cut text manner is hears.
    lines_cut c.rules_are_known.ensures policy text manner s (start_in (setting_in s) s c.requires.starts) before mid now (c.in_ok-tell_header.ensures text is) halt
    (cut (resolver_of c.args.choice) manner c.chooser_of-chooser.ensures (heard_none (model_in s) manner (clock_in s) listener hears))) c.play_on-played.ensures.cut
