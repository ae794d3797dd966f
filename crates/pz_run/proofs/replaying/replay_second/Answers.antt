use Rattle.pz_bind.specs.pz_classes.CheckedView.{checked_model}
use Rattle.pz_run.proofs.Replayed.{closed_said}
use Rattle.std.proofs.Common.{refl}
use Rattle.pz_run.proofs.Handed.{closed_hands}
use Rattle.pz_run.proofs.replaying.replay_second.Goals as goal

pub returns-in-Err-clause-printed : goal.returns-in-Err-clause-printed
returns-in-Err-clause-printed g c =
    closed_said c.args.units (checked_model c.args.checked) c.args.trace.now _ _ c.say_refused.result c.requires.second c.in-Err.error c.in-Err.ensures.refused c.say_refused.ensures

pub returns-in-Err-clause-simulator : goal.returns-in-Err-clause-simulator
returns-in-Err-clause-simulator g c =
    closed_hands c.args.units (checked_model c.args.checked) c.args.trace.now c.in-Err.error _ _ c.say_refused.result c.requires.second c.in-Err.ensures.refused c.say_refused.ensures

pub returns-in-Err-clause-unbegun : goal.returns-in-Err-clause-unbegun
returns-in-Err-clause-unbegun g c = λ never. refl
