use Rattle.std.proofs.Common.{◌≡◌, Ok, sym, ap, subst, ◌∙◌}
use Rattle.pz_rules.specs.Settings.{Setting}
use Rattle.pz_rules.specs.Ports.{HasWires}
use Rattle.pz_watch_points.specs.pz_trace.declared.ending.Ending.{Ending}
use Rattle.pz_watch_points.specs.pz_trace.declared.ending.Ending.TheVariants.{Stop}
use Rattle.pz_run_playing.specs.declared.finale.Finale.{Finale}
use Rattle.pz_run_playing.specs.declared.finale.Finale.TheVariants.{Ended}
use Rattle.pz_run_playing.specs.Playing.{Plays, trace, menu}
use Rattle.pz_run_playing.specs.Policies.{resolver_of, policy_of}
use Rattle.pz_term_simulator.specs.Simulations.{model_in}
use Rattle.pz_rules.specs.pz_classes_rules.Soundness.{IsSound}
use Rattle.pz_run_playing.proofs.WholeRuns.{its_setting, menu_broken, menu_cut, menu_told, menu_alone}
use Rattle.pz_run_playing.proofs.runs.play_menu.Goals as goal

one_ended : (e d : Ending) → Ended e ≡ Ended d → e ≡ d
one_ended e d h = cc

pub returns-in_err-finale : goal.returns-in_err-finale
returns-in_err-finale g c = λ setting starts.
    let s = g.S.Simulator.simulation c.args.sim.now in
    let policy = policy_of (resolver_of c.args.choice) c.args.limits in
    let sound = subst IsSound (c.model-model.ensures.is ∙ c.checked.ensures) c.model-model.ensures.sound in
    let wires = subst (λ (x : Setting). HasWires x.model) (its_setting setting s starts) (c.rules_are_known.ensures.wires (model_in s) sound) in
    let now = g.W.Sink.state c.play_trace.new.out in
    menu_broken c.rules_are_known.ensures setting policy (g.S.Simulator.simulation c.play_trace.new.sim) (g.W.Sink.state c.args.out.now) now now
    wires c.in_err-finale.field-0.0 c.from_residual.result c.from_residual.ensures.1 (c.in_err-finale.ensures setting starts)

pub returns-in_err-tell_offers-in-Stop : goal.returns-in_err-tell_offers-in-Stop
returns-in_err-tell_offers-in-Stop g c = λ setting starts.
    let policy = policy_of (resolver_of c.args.choice) c.args.limits in
    let t = g.S.Simulator.simulation c.play_trace.new.sim in
    let before = g.W.Sink.state c.args.out.now in
    let mid = g.W.Sink.state c.play_trace.new.out in
    let played = subst (λ (f : Finale). Plays setting policy trace t before mid (Ok f)) (c.in-Ended.is ∙ ap Ended c.in-Stop.is) (c.in_ok-finale.ensures setting starts) in
    let told = c.in_err-tell_offers-in-Stop.ensures in
    menu_cut c.rules_are_known.ensures setting policy t before mid (g.W.Sink.state c.tell_offers.new.out)
    played told.0 told.1 c.in_err-tell_offers-in-Stop.field-0.0
    c.from_residual-in_err-tell_offers-in-Stop.result c.from_residual-in_err-tell_offers-in-Stop.ensures.1 told.2

pub returns-in_ok-tell_offers-in-Stop : goal.returns-in_ok-tell_offers-in-Stop
returns-in_ok-tell_offers-in-Stop g c = λ setting starts.
    let policy = policy_of (resolver_of c.args.choice) c.args.limits in
    let t = g.S.Simulator.simulation c.play_trace.new.sim in
    let before = g.W.Sink.state c.args.out.now in
    let mid = g.W.Sink.state c.play_trace.new.out in
    let now = g.W.Sink.state c.tell_offers.new.out in
    let played = subst (λ (f : Finale). Plays setting policy trace t before mid (Ok f)) (c.in-Ended.is ∙ ap Ended c.in-Stop.is) (c.in_ok-finale.ensures setting starts) in
    let told = c.in_ok-tell_offers-in-Stop.ensures in
    subst (λ (e : Ending). Plays setting policy menu t before now (Ok (Ended e))) (sym c.in-Stop.is)
    (menu_told c.rules_are_known.ensures setting policy t before mid now played told.0 told.1 told.2)

-- an entry was refused
pub returns-in_default : goal.returns-in_default
returns-in_default g c = λ setting starts.
    let policy = policy_of (resolver_of c.args.choice) c.args.limits in
    let now = g.W.Sink.state c.play_trace.new.out in
    menu_alone c.rules_are_known.ensures setting policy (g.S.Simulator.simulation c.play_trace.new.sim) (g.W.Sink.state c.args.out.now) now now
    c.in_ok-finale.finale (c.in_default.not-Ended Stop) (c.in_ok-finale.ensures setting starts)

pub returns-in_default-ending : goal.returns-in_default-ending
returns-in_default-ending g c = λ setting starts.
    let policy = policy_of (resolver_of c.args.choice) c.args.limits in
    let t = g.S.Simulator.simulation c.play_trace.new.sim in
    let before = g.W.Sink.state c.args.out.now in
    let now = g.W.Sink.state c.play_trace.new.out in
    let played = subst (λ (f : Finale). Plays setting policy trace t before now (Ok f)) c.in-Ended.is (c.in_ok-finale.ensures setting starts) in
    menu_alone c.rules_are_known.ensures setting policy t before now now
    (Ended c.in-Ended.ending) (λ h. c.in_default-ending.not-Stop (one_ended c.in-Ended.ending Stop h)) played
