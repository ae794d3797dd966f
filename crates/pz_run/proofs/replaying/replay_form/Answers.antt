use Rattle.std.proofs.Common.{inr, refl}
use Rattle.pz_bind.specs.pz_classes.CheckedView.{checked_model}
use Rattle.pz_run.proofs.Begins.{opens_at}
use Rattle.pz_run_output.proofs.Sayings.{nothing}
use Rattle.pz_run.proofs.replaying.replay_form.Goals as goal

pub replay_whole-requires-clause-opens : goal.replay_whole-requires-clause-opens
replay_whole-requires-clause-opens g c = opens_at _ _ c.in-Ok.ensures c.requires.opens

pub returns-in-Ok-clause-printed : goal.returns-in-Ok-clause-printed
returns-in-Ok-clause-printed g c = inr (c.replay_whole.ensures.printed (checked_model c.args.checked) c.args.form c.args.units c.requires.told c.requires.asked c.in-Ok.ensures c.requires.tells)

pub returns-in-Err-clause-printed : goal.returns-in-Err-clause-printed
returns-in-Err-clause-printed g c = nothing _ _

pub returns-in-Ok-clause-simulator : goal.returns-in-Ok-clause-simulator
returns-in-Ok-clause-simulator g c = c.replay_whole.ensures.simulator (checked_model c.args.checked) c.args.form c.args.units c.requires.told c.requires.asked c.in-Ok.ensures c.requires.tells

pub returns-in-Err-clause-simulator : goal.returns-in-Err-clause-simulator
returns-in-Err-clause-simulator g c = λ written ample. absurd (ample refl)

pub returns-in-Ok-clause-unbegun : goal.returns-in-Ok-clause-unbegun
returns-in-Ok-clause-unbegun g c = c.replay_whole.ensures.unbegun

pub returns-in-Err-clause-unbegun : goal.returns-in-Err-clause-unbegun
returns-in-Err-clause-unbegun g c = λ never. refl
