use Rattle.std.proofs.Common.{ℕ, Err, ap, refl}
use Rattle.std.specs.Prelude.{Vec}
use Rattle.std.specs.declared.alloc.Global.{Global}
use Rattle.pz_debug.specs.Files.{model_file}
use Rattle.pz_debug.specs.devices.Debugging.{PrintsClosed, no_model}
use Rattle.pz_debug.proofs.Unread.{not_fault, unread}
use Rattle.pz_debug.proofs.TwoFiles.{from_text}
use Rattle.pz_debug.proofs.debugging.debug_files.Goals as goal

pub returns-in-Ok : goal.returns-in-Ok
returns-in-Ok g c =
    from_text c.args.model.now c.args.commands.now _ _ _ _ _ c.debug_text.result c.as_slice.result.now (record {
      opened = c.in-Ok.ensures.opens;
      names = c.in-Ok.ensures.opened;
      told = c.in-Ok.ensures.told;
      held = c.in-Ok.ensures.held;
      faults = c.in-Ok.ensures.counted refl;
      short = rw c.as_slice.ensures.value c.in-Ok.ensures.limit;
      content = λ told. rw c.as_slice.ensures.value (c.in-Ok.ensures.content told);
    }) c.debug_text.ensures

pub returns-in-Err : goal.returns-in-Err
returns-in-Err g c = no_model (record {
  opened = c.in-Err.ensures.opens;
  names = c.in-Err.ensures.opened;
  outcome = unread (model_file c.args.model.now) PrintsClosed _ _ _ _ c.say_unread.result c.in-Err.error
      (λ other. c.in-Err.ensures.counted (not_fault (Vec ℕ Global) c.in-Err.error other)) (λ is. c.in-Err.ensures.fault (ap Err is)) (λ is. c.in-Err.ensures.too_long (ap Err is)) (λ is. c.in-Err.ensures.longer (ap Err is)) c.say_unread.ensures;
})
