use Rattle.std.proofs.Common.{refl}
use Rattle.pz_bind.specs.pz_classes.CheckedView.{checked_model}
use Rattle.pz_run_output.specs.Scripts.{malformed}
use Rattle.pz_run.proofs.Handed.{no_script_hands}
use Rattle.pz_run.proofs.driving.drive_lines.Goals as goal

pub returns-in-Ok-clause-printed : goal.returns-in-Ok-clause-printed
returns-in-Ok-clause-printed g c = c.drive_script.ensures.printed c.args.file.now c.in-Ok.ensures.found

pub returns-in-Err-clause-printed : goal.returns-in-Err-clause-printed
returns-in-Err-clause-printed g c =
    c.say_no_script.ensures.printed (checked_model c.args.checked) c.args.play c.args.file.now (λ number is. malformed number (c.in-Err.ensures.malformed number (c.malformed_line.ensures number is)))

pub returns-in-Ok-clause-simulator : goal.returns-in-Ok-clause-simulator
returns-in-Ok-clause-simulator g c = c.drive_script.ensures.simulator c.args.file.now c.in-Ok.ensures.found

pub returns-in-Err-clause-simulator : goal.returns-in-Err-clause-simulator
returns-in-Err-clause-simulator g c =
    no_script_hands c.args.play (checked_model c.args.checked) c.args.file.now c.malformed_line.result c.say_no_script.result
    (λ number is. malformed number (c.in-Err.ensures.malformed number (c.malformed_line.ensures number is))) c.say_no_script.ensures.wanting

pub returns-in-Ok-clause-unbegun : goal.returns-in-Ok-clause-unbegun
returns-in-Ok-clause-unbegun g c = c.drive_script.ensures.unbegun

pub returns-in-Err-clause-unbegun : goal.returns-in-Err-clause-unbegun
returns-in-Err-clause-unbegun g c = λ never. refl
