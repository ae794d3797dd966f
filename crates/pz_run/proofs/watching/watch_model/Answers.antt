use Rattle.std.proofs.Common.{ℕ, Err, ap, refl}
use Rattle.std.specs.Prelude.{Vec}
use Rattle.std.specs.declared.alloc.Global.{Global}
use Rattle.pz_bind.specs.pz_classes.CheckedView.{checked_model}
use Rattle.pz_run_output.specs.Files.{watch_file}
use Rattle.pz_run_output.specs.Output.{PrintsJudged}
use Rattle.pz_run_output.specs.devices.Reading.{whole}
use Rattle.pz_run.specs.HandedOut.{WatchHandsOut}
use Rattle.pz_run_output.proofs.Unread.{not_fault, unread}
use Rattle.pz_run.proofs.Handed.{read_hands, unread_hands}
use Rattle.pz_run.proofs.watching.watch_model.Goals as goal

pub returns-in-Ok-clause-printed : goal.returns-in-Ok-clause-printed
returns-in-Ok-clause-printed g c = record {
  opened = c.in-Ok.ensures.opens;
  names = c.in-Ok.ensures.opened;
  outcome = whole c.as_slice.result.now (c.in-Ok.ensures.counted refl) (rw c.as_slice.ensures.value c.in-Ok.ensures.limit) (λ told. rw c.as_slice.ensures.value (c.in-Ok.ensures.content told)) c.watch_lines.ensures.printed;
}

pub returns-in-Err-clause-printed : goal.returns-in-Err-clause-printed
returns-in-Err-clause-printed g c = record {
  opened = c.in-Err.ensures.opens;
  names = c.in-Err.ensures.opened;
  outcome = unread (watch_file c.args.watches.now) (PrintsJudged c.args.play (checked_model c.args.checked)) _ _ _ _ c.say_unread.result c.in-Err.error
      (λ other. c.in-Err.ensures.counted (not_fault (Vec ℕ Global) c.in-Err.error other)) (λ is. c.in-Err.ensures.fault (ap Err is)) (λ is. c.in-Err.ensures.too_long (ap Err is)) (λ is. c.in-Err.ensures.longer (ap Err is)) c.say_unread.ensures;
}

pub returns-in-Ok-clause-simulator : goal.returns-in-Ok-clause-simulator
returns-in-Ok-clause-simulator g c =
    read_hands (watch_file c.args.watches.now) (WatchHandsOut c.args.play (checked_model c.args.checked)) _ _ c.watch_lines.result.status c.as_slice.result.now _
    (rw c.as_slice.ensures.value c.in-Ok.ensures.limit) (λ told. rw c.as_slice.ensures.value (c.in-Ok.ensures.content told)) c.watch_lines.ensures.simulator

pub returns-in-Err-clause-simulator : goal.returns-in-Err-clause-simulator
returns-in-Err-clause-simulator g c =
    unread_hands (watch_file c.args.watches.now) (WatchHandsOut c.args.play (checked_model c.args.checked)) _ _ c.say_unread.result c.in-Err.error _ _
    (λ is. c.in-Err.ensures.fault (ap Err is)) (λ is. c.in-Err.ensures.longer (ap Err is)) c.say_unread.ensures

pub returns-in-Ok-clause-unbegun : goal.returns-in-Ok-clause-unbegun
returns-in-Ok-clause-unbegun g c = c.watch_lines.ensures.unbegun

pub returns-in-Err-clause-unbegun : goal.returns-in-Err-clause-unbegun
returns-in-Err-clause-unbegun g c = λ never. refl
