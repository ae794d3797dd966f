-- The text of a chosen run: that of a trace, whose last line may also tell of an entry that is refused.
use Rattle.std.specs.Prelude.{ℕ, List, ◌++◌}
use Rattle.pz_rules.specs.pz_syntax.Classes.{ModelTree}
use Rattle.pz_rules.specs.Settings.{Setting}
use Rattle.pz_rules.specs.Runs.{Event, Ending}
use Rattle.pz_watch_points.specs.pz_trace.TraceText.{trace_header, events_text}
use Rattle.pz_run_playing.specs.Endings.{last_line}

-- a first line, these events, and then this ending at this clock
abbrev pub text_under : List ℕ → ModelTree → List Event → ℕ → Ending → List ℕ
text_under header m events clock ending = header ++ (events_text m events ++ last_line m clock ending)

abbrev pub run_text : Setting → List Event → ℕ → Ending → List ℕ
run_text setting events clock ending = text_under (trace_header setting) setting.model events clock ending
