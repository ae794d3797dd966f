use Rattle.std.proofs.Common.{ℕ, ◌≡◌, ◌∙◌, Some, None, sym}
use Rattle.pz_run_output.specs.pz_run_lines.Lines.{script_refused_line}
use Rattle.pz_run_output.specs.Output.{PrintsDriven}
use Rattle.pz_run_output.proofs.Sayings.{nothing}
use Rattle.pz_run.proofs.Drivings.{no_script_said}
use Rattle.pz_run.proofs.driving.say_no_script.Goals as goal

other : (number : ℕ) → Some number ≡ None → ⊥
other number is = cc

pub returns-in-None-clause-printed : goal.returns-in-None-clause-printed
returns-in-None-clause-printed g c = λ m play file refused. nothing (PrintsDriven play m file) _

pub returns-in-Some-clause-printed : goal.returns-in-Some-clause-printed
returns-in-Some-clause-printed g c = λ m play file refused.
    no_script_said play m file _ _ c.in-Some.number c.say_made.result (refused c.in-Some.number c.in-Some.is)
    (c.say_made.ensures (script_refused_line c.in-Some.number) c.script_refused_line.ensures)

pub returns-in-Some-clause-wanting : goal.returns-in-Some-clause-wanting
returns-in-Some-clause-wanting g c = λ is. absurd (other c.in-Some.number (sym c.in-Some.is ∙ is))
