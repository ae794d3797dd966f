use Rattle.pz_bind.specs.pz_classes.CheckedView.{checked_model}
use Rattle.pz_run.proofs.Replayed.{tells_nothing, header_said}
use Rattle.std.proofs.Common.{refl}
use Rattle.pz_run.specs.HandedOut.{no_header}
use Rattle.pz_run.proofs.replaying.replay_told.Goals as goal

pub replay_form-requires-clause-tells : goal.replay_form-requires-clause-tells
replay_form-requires-clause-tells g c = c.requires.tells c.in-Some.form

pub returns-in-None-clause-printed : goal.returns-in-None-clause-printed
returns-in-None-clause-printed g c =
    header_said c.args.units (checked_model c.args.checked) c.args.trace.now _ _ c.refuse_header.result c.requires.opens
    (tells_nothing c.args.told c.args.trace.now c.requires.told c.in-None.is) c.refuse_header.ensures

pub returns-in-None-clause-simulator : goal.returns-in-None-clause-simulator
returns-in-None-clause-simulator g c = λ written ample. no_header (tells_nothing c.args.told c.args.trace.now c.requires.told c.in-None.is)

pub returns-in-None-clause-unbegun : goal.returns-in-None-clause-unbegun
returns-in-None-clause-unbegun g c = λ never. refl
