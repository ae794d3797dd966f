use Rattle.std.proofs.Common.{ℕ, Err, ap, refl}
use Rattle.std.specs.Prelude.{Vec}
use Rattle.std.specs.declared.alloc.Global.{Global}
use Rattle.pz_run_output.specs.Files.{model_file}
use Rattle.pz_run_output.specs.devices.Reading.{whole}
use Rattle.pz_run_output.specs.devices.Formatting.{PrintsFormat}
use Rattle.pz_run_output.proofs.Unread.{not_fault, unread}
use Rattle.pz_run_output.proofs.formatting.format_file.Goals as goal

pub returns-in-Ok : goal.returns-in-Ok
returns-in-Ok g c = record {
  opened = c.in-Ok.ensures.opens;
  names = c.in-Ok.ensures.opened;
  outcome = whole c.as_slice.result.now (c.in-Ok.ensures.counted refl) (rw c.as_slice.ensures.value c.in-Ok.ensures.limit) (λ told. rw c.as_slice.ensures.value (c.in-Ok.ensures.content told)) c.format_text.ensures;
}

pub returns-in-Err : goal.returns-in-Err
returns-in-Err g c = record {
  opened = c.in-Err.ensures.opens;
  names = c.in-Err.ensures.opened;
  outcome = unread (model_file c.args.name.now) PrintsFormat _ _ _ _ c.say_unread.result c.in-Err.error
      (λ other. c.in-Err.ensures.counted (not_fault (Vec ℕ Global) c.in-Err.error other)) (λ is. c.in-Err.ensures.fault (ap Err is)) (λ is. c.in-Err.ensures.too_long (ap Err is)) (λ is. c.in-Err.ensures.longer (ap Err is)) c.say_unread.ensures;
}
