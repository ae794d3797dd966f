use Rattle.std.proofs.Common.{ℕ, ◌≡◌, ◌∙◌, sym}
use Rattle.pz_watch.specs.declared.errors.ReadWatchesError.TheVariants.{NoMemory, Refused}
use Rattle.pz_run_output.specs.pz_run_lines.Lines.{watch_refused_line}
use Rattle.pz_run_output.specs.Output.{PrintsJudged}
use Rattle.pz_run_output.proofs.Sayings.{nothing}
use Rattle.pz_run.proofs.Judgings.{no_watches_said}
use Rattle.pz_run.proofs.watching.say_no_watches.Goals as goal

other : (line : ℕ) → Refused line ≡ NoMemory → ⊥
other line is = cc

pub returns-in-NoMemory-clause-printed : goal.returns-in-NoMemory-clause-printed
returns-in-NoMemory-clause-printed g c = λ m play file refused. nothing (PrintsJudged play m file) _

pub returns-in-Refused-clause-printed : goal.returns-in-Refused-clause-printed
returns-in-Refused-clause-printed g c = λ m play file refused.
    no_watches_said play m file _ _ c.in-Refused.line c.say_made.result (refused c.in-Refused.line c.in-Refused.is)
    (c.say_made.ensures (watch_refused_line c.in-Refused.line) c.watch_refused_line.ensures)

pub returns-in-Refused-clause-wanting : goal.returns-in-Refused-clause-wanting
returns-in-Refused-clause-wanting g c = λ is. absurd (other c.in-Refused.line (sym c.in-Refused.is ∙ is))
