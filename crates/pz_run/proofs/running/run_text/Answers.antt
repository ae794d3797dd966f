use Rattle.std.proofs.Common.{refl}
use Rattle.pz_bind.specs.pz_classes.CheckedView.{checked_model}
use Rattle.pz_run_output.specs.pz_run_lines.pz_run_reading.Openings.{IsOpenModelOf}
use Rattle.pz_run.specs.HandedOut.{RunHandsOut}
use Rattle.pz_run_output.proofs.OfTexts.{run_said, refusal_said}
use Rattle.pz_run.proofs.Handed.{model_hands, refusal_hands}
use Rattle.pz_run.proofs.running.run_text.Goals as goal

pub run_model-requires-clause-opens : goal.run_model-requires-clause-opens
run_model-requires-clause-opens g c = c.in-Ok.ensures.found.opens

pub returns-in-Ok-clause-printed : goal.returns-in-Ok-clause-printed
returns-in-Ok-clause-printed g c =
    run_said c.args.text.now _ _ c.run_model.result.status c.one_run.ensures c.open_or_refused.ensures c.args.play (checked_model c.in-Ok.checked)
    c.in-Ok.ensures.found c.in-Ok.ensures.only c.run_model.ensures.printed

pub returns-in-Err-clause-printed : goal.returns-in-Err-clause-printed
returns-in-Err-clause-printed g c =
    refusal_said c.args.text.now _ _ c.say_refused.result c.args.play c.in-Err.error c.in-Err.ensures.refused c.in-Err.ensures.only c.say_refused.ensures

pub returns-in-Ok-clause-simulator : goal.returns-in-Ok-clause-simulator
returns-in-Ok-clause-simulator g c =
    model_hands IsOpenModelOf (RunHandsOut c.args.play) c.args.text.now (checked_model c.in-Ok.checked) c.run_model.result.status _ c.in-Ok.ensures.found c.run_model.ensures.simulator

pub returns-in-Err-clause-simulator : goal.returns-in-Err-clause-simulator
returns-in-Err-clause-simulator g c =
    refusal_hands IsOpenModelOf (RunHandsOut c.args.play) c.args.text.now c.in-Err.error _ _ c.say_refused.result c.in-Err.ensures.only c.say_refused.ensures

pub returns-in-Ok-clause-unbegun : goal.returns-in-Ok-clause-unbegun
returns-in-Ok-clause-unbegun g c = c.run_model.ensures.unbegun

pub returns-in-Err-clause-unbegun : goal.returns-in-Err-clause-unbegun
returns-in-Err-clause-unbegun g c = λ never. refl
