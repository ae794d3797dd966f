-- A run that is chosen and judged by watches: its text, and what has become of it where it was played.
use Rattle.std.specs.Prelude.{◌≡◌, ◌↔◌, ℕ, List, [], ◌++◌, IsTrue, Result, IfOk, OnOk}
use Rattle.std.specs.Result.{result_err}
use Rattle.pz_io.specs.Outside.{SinkState}
use Rattle.pz_io.specs.declared.writing.Halt.{Halt}
use Rattle.pz_io.specs.Writing.{Wrote}
use Rattle.pz_rules.specs.Settings.{Setting}
use Rattle.pz_rules.specs.Runs.{Event, Ending}
use Rattle.pz_rules.specs.ChosenRuns.{Policy}
use Rattle.pz_watch_points.specs.pz_trace.TraceText.{trace_header}
use Rattle.pz_term_simulator.specs.Simulations.{Simulation, stands}
use Rattle.pz_watch.specs.Files.{NamedFormula}
use Rattle.pz_watch.specs.Breaking.{AreBroken}
use Rattle.pz_watch_points.specs.EventPoints.{points_of}
use Rattle.pz_run_playing.specs.declared.finale.Judged.{Judged}
use Rattle.pz_run_playing.specs.Endings.{ending_of, last_line}
use Rattle.pz_run_playing.specs.Sayings.{judged_line, said_after}
use Rattle.pz_run_playing.specs.Playing.{ChosenRun}

-- the trace of these events and of this ending at this clock, with the lines of watches that are broken
abbrev pub watched_text : Setting → List NamedFormula → List Event → ℕ → Ending → List ℕ
watched_text setting ws events clock ending =
    trace_header setting ++ (said_after (judged_line setting.model ws) [] events ++ last_line setting.model clock ending)

-- The run was played: its text was written, unless that halted; and if it did not, the finale is its
-- ending, it is known whether some watch was broken, and the simulator stands at its end.
pub record PlaysWatched (setting : Setting) (policy : Policy) (ws : List NamedFormula) (now : Simulation) (before after : SinkState) (result : Result Judged Halt) : Type 0 where
  pub run : ChosenRun setting policy
  pub wrote : Wrote before after (watched_text setting ws run.events run.end.clock run.ending) (result_err result)
  pub finale : IfOk result (λ judged. ending_of judged.finale ≡ run.ending)
  pub broken : IfOk result (λ judged. IsTrue judged.broken ↔ AreBroken ws (points_of setting.model run.events))
  pub arrives : OnOk result (now ≡ stands setting run.end run.standing)
