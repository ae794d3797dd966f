use Rattle.std.proofs.Common.{refl}
use Rattle.pz_bind.specs.pz_classes.CheckedView.{checked_model}
use Rattle.pz_debug.specs.devices.Debugging.{refuses, goes_on}
use Rattle.pz_debug.proofs.TwoFiles.{closed_said}
use Rattle.pz_debug.proofs.debugging.debug_text.Goals as goal

pub debug_commands-requires-clause-opens : goal.debug_commands-requires-clause-opens
debug_commands-requires-clause-opens g c = c.in-Ok.ensures.found.opens

pub debug_commands-requires-clause-sound : goal.debug_commands-requires-clause-sound
debug_commands-requires-clause-sound g c = c.in-Ok.ensures.found.is_model.sound

pub returns-in-Ok : goal.returns-in-Ok
returns-in-Ok g c =
    goes_on (checked_model c.in-Ok.checked) (record {
      is_model = c.in-Ok.ensures.found;
      unrefused = λ r. c.open_or_refused.ensures c.args.text.now (checked_model c.in-Ok.checked) r c.in-Ok.ensures.found;
    }) c.debug_commands.ensures

pub returns-in-Err : goal.returns-in-Err
returns-in-Err g c = refuses refl (closed_said c.args.text.now _ _ c.say_refused.result c.in-Err.error c.in-Err.ensures.refused c.say_refused.ensures)
