use Rattle.std.proofs.Common.{subst, ◌∙◌}
use Rattle.pz_rules.specs.pz_classes_rules.Soundness.{IsSound}
use Rattle.pz_run_replaying.proofs.Openings.{replayed_so, some_outcome}
use Rattle.pz_run_replaying.proofs.replaying.replay.Goals as goal

pub returns : goal.returns
returns g c = λ setting starts tells.
    let s = g.S.Simulator.simulation c.args.sim.now in
    let sound = subst IsSound (c.model-model.ensures.is ∙ c.checked.ensures) c.model-model.ensures.sound in
    replayed_so setting c.args.trace.now (g.W.Sink.state c.args.out.now) (g.W.Sink.state c.replay_lines.new.out) (g.S.Simulator.simulation c.replay_lines.new.sim) c.replay_lines.result
    (some_outcome c.rules_are_known.ensures setting s c.args.trace.now tells starts sound) (c.replay_lines.ensures setting starts tells)
