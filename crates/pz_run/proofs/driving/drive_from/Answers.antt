use Rattle.pz_run_output.specs.pz_env_closing.pz_env_rules.Text.{drive_header}
use Rattle.pz_run.proofs.driving.drive_from.Goals as goal

pub returns : goal.returns
returns g c = λ setting starts. c.play_under.ensures setting (drive_header c.args.play.limits.units) starts c.drive_header-header.ensures
