use Rattle.std.proofs.Common.{refl, subst}
use Rattle.pz_bind.specs.pz_syntax.Classes.{ModelTree}
use Rattle.pz_bind.specs.pz_classes.CheckedView.{checked_model}
use Rattle.pz_run.specs.HandedOut.{RunHandsOut, left_in}
use Rattle.pz_run_output.specs.Scripts.{unfit}
use Rattle.pz_run.specs.devices.Driving.{PrintsClosedRun}
use Rattle.pz_run.specs.devices.Handing.{Hands}
use Rattle.pz_run_output.specs.devices.Saying.{Answers}
use Rattle.pz_run.proofs.Drivings.{driven_said}
use Rattle.pz_run.proofs.Handed.{driven_hands, no_script_hands}
use Rattle.pz_run.proofs.driving.drive_script.Goals as goal

pub returns-in-Ok-clause-printed : goal.returns-in-Ok-clause-printed
returns-in-Ok-clause-printed g c = λ file is.
    let before = g.W.Sink.state c.args.out.now in
    let now = g.W.Sink.state c.drive_closed.new.out in
    driven_said c.closed_runs_are_driven.ensures c.args.play c.requires.units (checked_model c.args.checked) file c.args.script c.requires.model
    (record { is_script = is; fits = c.in-Ok.ensures.only }) before now c.drive_closed.result.status
    (subst (λ (n : ModelTree). Answers (PrintsClosedRun c.args.play n) before now c.drive_closed.result.status) c.in-Ok.ensures.tree c.drive_closed.ensures.printed)

pub returns-in-Err-clause-printed : goal.returns-in-Err-clause-printed
returns-in-Err-clause-printed g c = λ file is.
    c.say_no_script.ensures.printed (checked_model c.args.checked) c.args.play file (λ number at. unfit c.args.script number is (c.in-Err.ensures.refused number (c.unfit_line.ensures number at)))

pub returns-in-Ok-clause-simulator : goal.returns-in-Ok-clause-simulator
returns-in-Ok-clause-simulator g c = λ file is.
    driven_hands c.args.play (checked_model c.args.checked) file c.args.script c.drive_closed.result.status (left_in c.drive_closed.result) (record { is_script = is; fits = c.in-Ok.ensures.only })
    (subst (λ (n : ModelTree). Hands (RunHandsOut c.args.play n) c.drive_closed.result.status (left_in c.drive_closed.result)) c.in-Ok.ensures.tree c.drive_closed.ensures.simulator)

pub returns-in-Err-clause-simulator : goal.returns-in-Err-clause-simulator
returns-in-Err-clause-simulator g c = λ file is.
    no_script_hands c.args.play (checked_model c.args.checked) file c.unfit_line.result c.say_no_script.result
    (λ number at. unfit c.args.script number is (c.in-Err.ensures.refused number (c.unfit_line.ensures number at))) c.say_no_script.ensures.wanting

pub returns-in-Ok-clause-unbegun : goal.returns-in-Ok-clause-unbegun
returns-in-Ok-clause-unbegun g c = c.drive_closed.ensures.unbegun

pub returns-in-Err-clause-unbegun : goal.returns-in-Err-clause-unbegun
returns-in-Err-clause-unbegun g c = λ never. refl
