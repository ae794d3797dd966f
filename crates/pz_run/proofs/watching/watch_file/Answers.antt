use Rattle.std.proofs.Common.{ℕ, Err, ap, refl}
use Rattle.std.specs.Prelude.{Vec}
use Rattle.std.specs.declared.alloc.Global.{Global}
use Rattle.pz_run_output.specs.Files.{model_file, watch_file}
use Rattle.pz_run_output.specs.devices.TwoFiles.{PrintsClosed, no_model}
use Rattle.pz_run.specs.devices.Judging.{PrintsWatches}
use Rattle.pz_run_output.proofs.Unread.{not_fault, unread}
use Rattle.pz_run_output.proofs.TwoAnswers.{from_text}
use Rattle.pz_io.specs.Outside.{Entries}
use Rattle.pz_run.specs.HandedOut.{OpenModelHandsOut, WatchFileHandsOut}
use Rattle.pz_run.proofs.Handed.{first_hands, unread_hands}
use Rattle.pz_run.proofs.watching.watch_file.Goals as goal

pub returns-in-Ok-clause-printed : goal.returns-in-Ok-clause-printed
returns-in-Ok-clause-printed g c =
    from_text c.args.model.now (watch_file c.args.watches.now) (PrintsWatches c.args.play) _ _ _ _ _ c.watch_text.result.status c.as_slice.result.now (record {
      opened = c.in-Ok.ensures.opens;
      names = c.in-Ok.ensures.opened;
      told = c.in-Ok.ensures.told;
      held = c.in-Ok.ensures.held;
      faults = c.in-Ok.ensures.counted refl;
      short = rw c.as_slice.ensures.value c.in-Ok.ensures.limit;
      content = λ told. rw c.as_slice.ensures.value (c.in-Ok.ensures.content told);
    }) c.watch_text.ensures.printed

pub returns-in-Err-clause-printed : goal.returns-in-Err-clause-printed
returns-in-Err-clause-printed g c = no_model (record {
  opened = c.in-Err.ensures.opens;
  names = c.in-Err.ensures.opened;
  outcome = unread (model_file c.args.model.now) PrintsClosed _ _ _ _ c.say_unread.result c.in-Err.error
      (λ other. c.in-Err.ensures.counted (not_fault (Vec ℕ Global) c.in-Err.error other)) (λ is. c.in-Err.ensures.fault (ap Err is)) (λ is. c.in-Err.ensures.too_long (ap Err is)) (λ is. c.in-Err.ensures.longer (ap Err is)) c.say_unread.ensures;
})

pub returns-in-Ok-clause-simulator : goal.returns-in-Ok-clause-simulator
returns-in-Ok-clause-simulator g c =
    first_hands (model_file c.args.model.now) (λ (held : Entries). OpenModelHandsOut (WatchFileHandsOut held c.args.watches.now c.args.play)) _ _ _ c.watch_text.result.status
    c.as_slice.result.now _ (record {
      opened = c.in-Ok.ensures.opens;
      names = c.in-Ok.ensures.opened;
      told = c.in-Ok.ensures.told;
      held = c.in-Ok.ensures.held;
      faults = c.in-Ok.ensures.counted refl;
      short = rw c.as_slice.ensures.value c.in-Ok.ensures.limit;
      content = λ told. rw c.as_slice.ensures.value (c.in-Ok.ensures.content told);
    }) c.watch_text.ensures.simulator

pub returns-in-Err-clause-simulator : goal.returns-in-Err-clause-simulator
returns-in-Err-clause-simulator g c =
    unread_hands (model_file c.args.model.now) (OpenModelHandsOut (WatchFileHandsOut _ c.args.watches.now c.args.play)) _ _ c.say_unread.result c.in-Err.error _ _
    (λ is. c.in-Err.ensures.fault (ap Err is)) (λ is. c.in-Err.ensures.longer (ap Err is)) c.say_unread.ensures

pub returns-in-Ok-clause-unbegun : goal.returns-in-Ok-clause-unbegun
returns-in-Ok-clause-unbegun g c = c.watch_text.ensures.unbegun

pub returns-in-Err-clause-unbegun : goal.returns-in-Err-clause-unbegun
returns-in-Err-clause-unbegun g c = λ never. refl
