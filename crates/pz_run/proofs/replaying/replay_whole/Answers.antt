use Rattle.pz_sim.specs.Sims.{simulation_of}
use Rattle.pz_run_output.specs.Plays.{setting_with}
use Rattle.pz_run.proofs.Replayed.{says_replay}
use Rattle.pz_run.proofs.Handed.{replay_hands, replayed_begun}
use Rattle.pz_run.proofs.replaying.replay_whole.Goals as goal

pub returns-clause-printed : goal.returns-clause-printed
returns-clause-printed g c = λ m form units is_told asked begins tells.
    says_replay units m form c.args.trace.now is_told asked (simulation_of c.replay_from-ended.new.sim) _ _ c.replay_from-ended.result c.replayed.result c.replayed.ensures
    (c.replay_from-ended.ensures (setting_with m form units) begins tells)

pub returns-clause-simulator : goal.returns-clause-simulator
returns-clause-simulator g c = λ m form units is_told asked begins tells.
    replay_hands units m form c.args.trace.now is_told asked (simulation_of c.replay_from-ended.new.sim) _ _ c.replay_from-ended.result c.replayed.result c.replayed.ensures
    (c.replay_from-ended.ensures (setting_with m form units) begins tells)

pub returns-clause-unbegun : goal.returns-clause-unbegun
returns-clause-unbegun g c = λ never. absurd (replayed_begun c.replay_from-ended.result c.replayed.result c.replayed.ensures never)
