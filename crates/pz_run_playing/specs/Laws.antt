-- Laws of runs that are chosen, and of their texts.
use Rattle.std.specs.Prelude.{◌≡◌, ℕ, List}
use Rattle.pz_rules.specs.pz_classes_rules.Soundness.{IsSound}
use Rattle.pz_rules.specs.Settings.{Setting}
use Rattle.pz_rules.specs.Runs.{Event}
use Rattle.pz_rules.specs.ChosenRuns.{Policy}
use Rattle.pz_watch_points.specs.pz_trace.declared.ending.Ending.{Ending}
use Rattle.pz_watch_points.specs.pz_trace.TraceText.{trace_text, run_ending, IsTrace}
use Rattle.pz_run_playing.specs.RunText.{run_text}
use Rattle.pz_run_playing.specs.Playing.{ChosenRun}

-- a policy chooses one run of a sound model: its events, the configuration at its end, and its ending
abbrev pub HasOneRun : Type 0
HasOneRun = (setting : Setting) (policy : Policy) → IsSound setting.model → (x y : ChosenRun setting policy)
    → (x.events ≡ y.events) × (x.end ≡ y.end) × (x.ending ≡ y.ending)

-- unless an entry is refused, the text of a run is that of a trace
abbrev pub RunTextsAreTraceTexts : Type 0
RunTextsAreTraceTexts = (setting : Setting) (events : List Event) (clock : ℕ) (ending : Ending) → run_text setting events clock (run_ending ending) ≡ trace_text setting events clock ending

-- that of a run of the model
abbrev pub ChosenRunsAreTraces : Type 0
ChosenRunsAreTraces = (setting : Setting) (policy : Policy) (run : ChosenRun setting policy) (ending : Ending) → run.ending ≡ run_ending ending
    → IsTrace setting (run_text setting run.events run.end.clock run.ending)
