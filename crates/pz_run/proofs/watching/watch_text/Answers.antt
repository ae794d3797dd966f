use Rattle.std.proofs.Common.{refl}
use Rattle.pz_bind.specs.pz_classes.CheckedView.{checked_model}
use Rattle.pz_run_output.specs.Files.{watch_file}
use Rattle.pz_run_output.specs.Output.{PrintsJudged}
use Rattle.pz_run_output.specs.devices.TwoFiles.{refuses, goes_on}
use Rattle.pz_run.specs.devices.Judging.{PrintsWatches}
use Rattle.pz_run_output.proofs.TwoAnswers.{reading_by, closed_said}
use Rattle.pz_run.proofs.Judgings.{of_judged}
use Rattle.pz_run_output.specs.pz_run_lines.pz_run_reading.Openings.{IsOpenModelOf}
use Rattle.pz_run.specs.HandedOut.{WatchFileHandsOut, of_model}
use Rattle.pz_run.proofs.Handed.{refusal_hands}
use Rattle.pz_run.proofs.watching.watch_text.Goals as goal

pub watch_model-requires-clause-opens : goal.watch_model-requires-clause-opens
watch_model-requires-clause-opens g c = c.in-Ok.ensures.found.opens

pub returns-in-Ok-clause-printed : goal.returns-in-Ok-clause-printed
returns-in-Ok-clause-printed g c =
    goes_on (checked_model c.in-Ok.checked) (record {
      is_model = c.in-Ok.ensures.found;
      only = c.in-Ok.ensures.only;
      unrefused = λ r. c.open_or_refused.ensures c.args.text.now (checked_model c.in-Ok.checked) r c.in-Ok.ensures.found;
    })
    (reading_by (watch_file c.args.watches.now) (PrintsJudged c.args.play (checked_model c.in-Ok.checked)) (PrintsWatches c.args.play (checked_model c.in-Ok.checked))
    (of_judged c.one_run.ensures c.files_have_one_answer.ensures.list c.files_have_one_answer.ensures.never_both c.args.play (checked_model c.in-Ok.checked) c.in-Ok.ensures.found.is_model.sound)
    _ _ _ _ c.watch_model.result.status c.watch_model.ensures.printed)

pub returns-in-Err-clause-printed : goal.returns-in-Err-clause-printed
returns-in-Err-clause-printed g c = refuses refl (closed_said c.args.text.now _ _ c.say_refused.result c.in-Err.error c.in-Err.ensures.refused c.in-Err.ensures.only c.say_refused.ensures)

pub returns-in-Ok-clause-simulator : goal.returns-in-Ok-clause-simulator
returns-in-Ok-clause-simulator g c = λ told came. of_model (checked_model c.in-Ok.checked) _ c.in-Ok.ensures.found (c.watch_model.ensures.simulator told came)

pub returns-in-Err-clause-simulator : goal.returns-in-Err-clause-simulator
returns-in-Err-clause-simulator g c = λ told came.
    refusal_hands IsOpenModelOf (WatchFileHandsOut _ c.args.watches.now c.args.play) c.args.text.now c.in-Err.error _ _ c.say_refused.result c.in-Err.ensures.only c.say_refused.ensures
    came.written came.ample

pub returns-in-Ok-clause-unbegun : goal.returns-in-Ok-clause-unbegun
returns-in-Ok-clause-unbegun g c = c.watch_model.ensures.unbegun

pub returns-in-Err-clause-unbegun : goal.returns-in-Err-clause-unbegun
returns-in-Err-clause-unbegun g c = λ never. refl
