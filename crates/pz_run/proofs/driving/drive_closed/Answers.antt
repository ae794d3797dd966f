use Rattle.std.proofs.Common.{inr, refl}
use Rattle.pz_bind.specs.pz_classes.CheckedView.{checked_model}
use Rattle.pz_run.proofs.Begins.{opens_at}
use Rattle.pz_run_output.proofs.Sayings.{nothing}
use Rattle.pz_run.proofs.driving.drive_closed.Goals as goal

pub drive_whole-requires-clause-opens : goal.drive_whole-requires-clause-opens
drive_whole-requires-clause-opens g c = opens_at _ _ c.in-Ok.ensures (λ two. c.requires.opens)

pub returns-in-Ok-clause-printed : goal.returns-in-Ok-clause-printed
returns-in-Ok-clause-printed g c = inr (c.drive_whole.ensures.printed (checked_model c.args.closed) c.in-Ok.ensures)

pub returns-in-Err-clause-printed : goal.returns-in-Err-clause-printed
returns-in-Err-clause-printed g c = nothing _ _

pub returns-in-Ok-clause-simulator : goal.returns-in-Ok-clause-simulator
returns-in-Ok-clause-simulator g c = c.drive_whole.ensures.simulator (checked_model c.args.closed) c.in-Ok.ensures

pub returns-in-Err-clause-simulator : goal.returns-in-Err-clause-simulator
returns-in-Err-clause-simulator g c = λ written ample. absurd (ample refl)

pub returns-in-Ok-clause-unbegun : goal.returns-in-Ok-clause-unbegun
returns-in-Ok-clause-unbegun g c = c.drive_whole.ensures.unbegun

pub returns-in-Err-clause-unbegun : goal.returns-in-Err-clause-unbegun
returns-in-Err-clause-unbegun g c = λ never. refl
