use Rattle.std.proofs.Common.{refl}
use Rattle.pz_bind.specs.pz_classes.CheckedView.{checked_model}
use Rattle.pz_run_output.specs.Plays.{setting_with}
use Rattle.pz_run_output.specs.Files.{trace_file}
use Rattle.pz_run_output.specs.devices.Replaying.{refuses, goes_on}
use Rattle.pz_run.proofs.Replayed.{of_reading, refusal_said}
use Rattle.pz_run_output.specs.pz_run_lines.pz_run_reading.Models.{IsModelOf}
use Rattle.pz_run.specs.HandedOut.{TraceFileHandsOut, of_model}
use Rattle.pz_run.proofs.Handed.{refusal_hands}
use Rattle.pz_run.proofs.replaying.replay_text.Goals as goal

pub replay_model-requires : goal.replay_model-requires
replay_model-requires g c = λ form. c.traces_are_known.ensures.lines c.args.text.now (setting_with (checked_model c.in-Ok.checked) form c.args.units) c.in-Ok.ensures.found

pub returns-in-Ok-clause-printed : goal.returns-in-Ok-clause-printed
returns-in-Ok-clause-printed g c =
    goes_on (checked_model c.in-Ok.checked) (record {
      is_model = c.in-Ok.ensures.found;
      only = c.in-Ok.ensures.only;
      unrefused = λ r. c.one_model.ensures.never_refused c.args.text.now (checked_model c.in-Ok.checked) r c.in-Ok.ensures.found;
    })
    (of_reading c.traces_are_known.ensures.one c.traces_are_known.ensures.told c.args.units (checked_model c.in-Ok.checked)
    (λ form. c.traces_are_known.ensures.lines c.args.text.now (setting_with (checked_model c.in-Ok.checked) form c.args.units) c.in-Ok.ensures.found)
    (trace_file c.args.trace.now) _ _ _ _ c.replay_model.result.status c.replay_model.ensures.printed)

pub returns-in-Err-clause-printed : goal.returns-in-Err-clause-printed
returns-in-Err-clause-printed g c = refuses refl (refusal_said c.args.text.now _ _ c.say_refused.result c.in-Err.error c.in-Err.ensures.refused c.in-Err.ensures.only c.say_refused.ensures)

pub returns-in-Ok-clause-simulator : goal.returns-in-Ok-clause-simulator
returns-in-Ok-clause-simulator g c = λ told came. of_model (checked_model c.in-Ok.checked) _ c.in-Ok.ensures.found (c.replay_model.ensures.simulator told came)

pub returns-in-Err-clause-simulator : goal.returns-in-Err-clause-simulator
returns-in-Err-clause-simulator g c = λ told came.
    refusal_hands IsModelOf (TraceFileHandsOut _ c.args.trace.now c.args.units) c.args.text.now c.in-Err.error _ _ c.say_refused.result c.in-Err.ensures.only c.say_refused.ensures
    came.written came.ample

pub returns-in-Ok-clause-unbegun : goal.returns-in-Ok-clause-unbegun
returns-in-Ok-clause-unbegun g c = c.replay_model.ensures.unbegun

pub returns-in-Err-clause-unbegun : goal.returns-in-Err-clause-unbegun
returns-in-Err-clause-unbegun g c = λ never. refl
