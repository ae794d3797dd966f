use Rattle.pz_bind.specs.pz_classes.CheckedView.{checked_model}
use Rattle.std.proofs.Common.{refl}
use Rattle.pz_run.proofs.Handed.{watched_hands, no_list_hands}
use Rattle.pz_run.proofs.watching.watch_lines.Goals as goal

pub judge_model-requires-clause-stand : goal.judge_model-requires-clause-stand
judge_model-requires-clause-stand g c = (c.in-Ok.ensures.found.named, c.in-Ok.ensures.found.stand)

pub returns-in-Ok-clause-printed : goal.returns-in-Ok-clause-printed
returns-in-Ok-clause-printed g c = let x = c.in-Ok.ensures.found in c.judge_model.ensures.printed c.args.file.now x.named x.are_watches x.stand

pub returns-in-Err-clause-printed : goal.returns-in-Err-clause-printed
returns-in-Err-clause-printed g c = c.say_no_watches.ensures.printed (checked_model c.args.checked) c.args.play c.args.file.now c.in-Err.ensures.refused

pub returns-in-Ok-clause-simulator : goal.returns-in-Ok-clause-simulator
returns-in-Ok-clause-simulator g c =
    let x = c.in-Ok.ensures.found in
    watched_hands c.args.play (checked_model c.args.checked) c.args.file.now x.named c.judge_model.result.status _ x.are_watches c.judge_model.ensures.simulator

pub returns-in-Err-clause-simulator : goal.returns-in-Err-clause-simulator
returns-in-Err-clause-simulator g c =
    no_list_hands c.args.play (checked_model c.args.checked) c.args.file.now c.in-Err.error c.say_no_watches.result c.in-Err.ensures.refused c.say_no_watches.ensures.wanting

pub returns-in-Ok-clause-unbegun : goal.returns-in-Ok-clause-unbegun
returns-in-Ok-clause-unbegun g c = c.judge_model.ensures.unbegun

pub returns-in-Err-clause-unbegun : goal.returns-in-Err-clause-unbegun
returns-in-Err-clause-unbegun g c = λ never. refl
