use Rattle.pz_run_output.proofs.Formatted.{layout_said, no_layout_said}
use Rattle.pz_run_output.proofs.formatting.format_text.Goals as goal

pub returns-in-Ok : goal.returns-in-Ok
returns-in-Ok g c =
    layout_said c.args.text.now _ _ c.say.result c.open_or_refused.ensures c.in-Ok.layout.items c.in-Ok.ensures.found
    (rw c.as_slice.ensures.value at c.say.ensures)

pub returns-in-Err : goal.returns-in-Err
returns-in-Err g c = no_layout_said c.args.text.now _ _ c.say_refused.result c.in-Err.error c.in-Err.ensures.refused c.say_refused.ensures
