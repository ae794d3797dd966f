use Rattle.std.proofs.Common.{◌≡◌, arith, length, ℕ, List, Some, None, ap, sym, subst, ◌∙◌, ◌++◌}
use Rattle.pz_io.specs.Writing.{Wrote}
use Rattle.pz_io.specs.declared.writing.Halt.TheVariants.{NoMemory}
use Rattle.pz_trace.specs.TraceText.{trace_header}
use Rattle.pz_term_simulator.specs.Simulations.{setting_in}
use Rattle.pz_run_replaying.specs.devices.Fronts.{StartsWith}
use Rattle.pz_rules.specs.pz_syntax.ModelText.{HasFewMarks}
use Rattle.pz_rules.specs.pz_classes_rules.Soundness.{IsSound}
use Rattle.pz_rules.specs.Clocks.{most_actions}
use Rattle.pz_run_replaying.proofs.Written.{err_is}
use Rattle.pz_run_replaying.proofs.Openings.{starts_in, ready_there, header_wanting, header_refused, header_cut, header_followed}
use Rattle.pz_run_replaying.proofs.replaying.replay_lines.Goals as goal

pub returns-in_err-header : goal.returns-in_err-header
returns-in_err-header g c =
    let sound = subst IsSound (c.model-model.ensures.is ∙ c.checked.ensures) c.model-model.ensures.sound in
    rw (err_is c.from_residual.result NoMemory c.from_residual.ensures.1)
    (λ setting starts tells.
    header_wanting c.rules_are_known.ensures setting c.args.trace.now tells (g.W.Sink.state c.args.out.now) (g.S.Simulator.simulation c.args.sim.now) (g.S.Simulator.simulation c.args.sim.now) starts sound)

pub returns-in_default : goal.returns-in_default
returns-in_default g c = λ setting starts tells.
    let sound = subst IsSound (c.model-model.ensures.is ∙ c.checked.ensures) c.model-model.ensures.sound in
    header_refused c.rules_are_known.ensures setting c.args.trace.now tells (g.W.Sink.state c.args.out.now) (g.S.Simulator.simulation c.args.sim.now) (g.W.Sink.state c.refuse.new.out)
    c.in_ok-header.header c.refuse.result starts sound c.in_ok-header.ensures
    (λ rest is. c.in_default.ensures rest (is ∙ ap (λ (l : List ℕ). l ++ rest) (sym (c.as_slice.ensures.value ∙ c.in_ok-header.ensures))))
    c.refuse.ensures.wrote c.refuse.ensures.refused

pub returns-in_err-put : goal.returns-in_err-put
returns-in_err-put g c =
    let sound = subst IsSound (c.model-model.ensures.is ∙ c.checked.ensures) c.model-model.ensures.sound in
    let is : c.as_slice.result.now ≡ trace_header (setting_in (g.S.Simulator.simulation c.args.sim.now)) = c.as_slice.ensures.value ∙ c.in_ok-header.ensures in
    let front = subst (λ (l : List ℕ). StartsWith c.args.trace.now l c.in-Some.len) is c.in-Some.ensures in
    let before = g.W.Sink.state c.args.out.now in
    let now = g.W.Sink.state c.put.new.out in
    let halt = c.in_err-put.field-0.0 in
    rw (err_is c.from_residual-in_err-put.result halt c.from_residual-in_err-put.ensures.1)
    (λ setting starts tells.
    header_cut c.rules_are_known.ensures setting c.args.trace.now tells before (g.S.Simulator.simulation c.args.sim.now) (g.S.Simulator.simulation c.args.sim.now) now halt c.in-Some.len starts sound front
    (subst (λ (l : List ℕ). Wrote before now l (Some halt)) (c.as_slice-2.ensures.value ∙ c.in_ok-header.ensures) c.in_err-put.ensures.wrote))

pub follow-requires-clause-ready : goal.follow-requires-clause-ready
follow-requires-clause-ready g c =
    let sound = subst IsSound (c.model-model.ensures.is ∙ c.checked.ensures) c.model-model.ensures.sound in
    ready_there c.rules_are_known.ensures c.requires.starts.0 (g.S.Simulator.simulation c.args.sim.now) c.requires.starts.1 sound

pub follow-requires-clause-room : goal.follow-requires-clause-room
follow-requires-clause-room g c =
    let s = g.S.Simulator.simulation c.args.sim.now in
    let known = c.rules_are_known.ensures in
    let same = c.model-model.ensures.is ∙ c.checked.ensures in
    let starts = starts_in c.requires.starts.0 s c.requires.starts.1 in
    known.less_room most_actions (length c.behind.result.now) s (omega (arith, c.requires.few, c.behind.ensures.left))
    (known.room_at_start (setting_in s) s (subst IsSound same c.model-model.ensures.sound) (subst HasFewMarks same c.model-model.ensures.few) c.requires.opens starts)

pub returns : goal.returns
returns g c = λ setting starts tells.
    let sound = subst IsSound (c.model-model.ensures.is ∙ c.checked.ensures) c.model-model.ensures.sound in
    let is : c.as_slice.result.now ≡ trace_header (setting_in (g.S.Simulator.simulation c.args.sim.now)) = c.as_slice.ensures.value ∙ c.in_ok-header.ensures in
    let front = subst (λ (l : List ℕ). StartsWith c.args.trace.now l c.in-Some.len) is c.in-Some.ensures in
    let before = g.W.Sink.state c.args.out.now in
    let mid = g.W.Sink.state c.put.new.out in
    let now = g.W.Sink.state c.follow.new.out in
    header_followed c.rules_are_known.ensures setting c.args.trace.now tells before (g.S.Simulator.simulation c.args.sim.now) (g.S.Simulator.simulation c.follow.new.sim) mid now c.follow.result c.in-Some.len starts sound front
    (subst (λ (l : List ℕ). Wrote before mid l None) (c.as_slice-2.ensures.value ∙ c.in_ok-header.ensures) c.in_ok-put.ensures.wrote)
    (rw c.behind.ensures.rest at c.follow.ensures)
