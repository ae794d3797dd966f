use Rattle.pz_run_lines.specs.Lines.{accepted_line}
use Rattle.pz_run_output.proofs.OfTexts.{size_said, no_size_said}
use Rattle.pz_run_output.proofs.texts.check_text.Goals as goal

pub returns-in-Ok : goal.returns-in-Ok
returns-in-Ok g c =
    size_said c.args.text.now _ _ c.say_made.result c.open_or_refused.ensures c.in-Ok.size.processes c.in-Ok.size.wires c.in-Ok.ensures.found
    (c.say_made.ensures (accepted_line c.in-Ok.size.processes c.in-Ok.size.wires) c.accepted_line.ensures)

pub returns-in-Err : goal.returns-in-Err
returns-in-Err g c = no_size_said c.args.text.now _ _ c.say_refused.result c.in-Err.error c.in-Err.ensures.refused c.say_refused.ensures
