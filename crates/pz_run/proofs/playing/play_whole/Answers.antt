use Rattle.pz_sim.specs.Sims.{simulation_of}
use Rattle.pz_run_output.specs.Plays.{setting_for}
use Rattle.pz_run.proofs.Played.{says_run}
use Rattle.pz_run.proofs.Handed.{run_hands, run_begun}
use Rattle.pz_run.proofs.playing.play_whole.Goals as goal

pub returns-clause-printed : goal.returns-clause-printed
returns-clause-printed g c = λ m begins.
    says_run c.args.play m (simulation_of c.play_from-ended.new.sim) _ _ c.play_from-ended.result c.played.result c.played.ensures
    (c.play_from-ended.ensures (setting_for m c.args.play) begins)

pub returns-clause-simulator : goal.returns-clause-simulator
returns-clause-simulator g c = λ m begins.
    run_hands c.args.play m (simulation_of c.play_from-ended.new.sim) _ _ c.play_from-ended.result c.played.result c.played.ensures
    (c.play_from-ended.ensures (setting_for m c.args.play) begins)

pub returns-clause-unbegun : goal.returns-clause-unbegun
returns-clause-unbegun g c = λ never. absurd (run_begun c.play_from-ended.result c.played.result c.played.ensures never)
