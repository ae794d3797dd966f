use Rattle.pz_sim.specs.Sims.{simulation_of}
use Rattle.pz_run_output.specs.pz_env_closing.pz_env_rules.Text.{drive_header}
use Rattle.pz_run_output.specs.Plays.{setting_for}
use Rattle.pz_run.proofs.Drivings.{says_closed}
use Rattle.pz_run.proofs.Handed.{under_hands, run_begun}
use Rattle.pz_run.proofs.driving.drive_whole.Goals as goal

pub returns-clause-printed : goal.returns-clause-printed
returns-clause-printed g c = λ m begins.
    says_closed c.args.play m (simulation_of c.drive_from-ended.new.sim) _ _ c.drive_from-ended.result c.played.result c.played.ensures
    (c.drive_from-ended.ensures (setting_for m c.args.play) begins)

pub returns-clause-simulator : goal.returns-clause-simulator
returns-clause-simulator g c = λ m begins.
    under_hands c.args.play m (simulation_of c.drive_from-ended.new.sim) _ _ (drive_header c.args.play.limits.units) c.drive_from-ended.result c.played.result c.played.ensures
    (c.drive_from-ended.ensures (setting_for m c.args.play) begins)

pub returns-clause-unbegun : goal.returns-clause-unbegun
returns-clause-unbegun g c = λ never. absurd (run_begun c.drive_from-ended.result c.played.result c.played.ensures never)
