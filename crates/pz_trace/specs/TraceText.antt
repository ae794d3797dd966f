-- The text of a run: the header of its limits, a line for each action that was chosen and for each passing of time,
-- and a line for the end. An action that ended in a trouble has its line.
use Rattle.std.specs.Prelude.{◌≡◌, ℕ, List, ◌++◌}
use Rattle.std.specs.List.{flat_map}
use Rattle.pz_rules.specs.pz_syntax.Classes.{ModelTree}
use Rattle.pz_rules.specs.Settings.{Setting}
use Rattle.pz_rules.specs.Configurations.{Config}
use Rattle.pz_rules.specs.Starting.{IsStart}
use Rattle.pz_rules.specs.Runs.{Event, acted, passed, Standing, Reaches, Ending as RunEnding, ended, deadlocked, troubled, halted, Ends}
use Rattle.pz_trace.specs.declared.ending.Ending.{Ending}
use Rattle.pz_trace.specs.declared.ending.Ending.TheVariants as ending
use Rattle.pz_trace.specs.Lines.{header, action_line, time_line, end_line}
use Rattle.pz_trace.specs.Forms.{form_of}

abbrev pub event_line : ModelTree → Event → List ℕ
event_line m (acted clock n k a) = action_line m clock n k a
event_line m (passed clock d) = time_line clock d

abbrev pub events_text : ModelTree → List Event → List ℕ
events_text m events = flat_map (event_line m) events

-- the header of the form of its limits
abbrev pub trace_header : Setting → List ℕ
trace_header setting = header (form_of setting.limits)

-- these events, and then this ending at this clock
abbrev pub trace_text : Setting → List Event → ℕ → Ending → List ℕ
trace_text setting events clock last = trace_header setting ++ (events_text setting.model events ++ end_line setting.model clock last)

-- the ending of a run of which the last line tells
abbrev pub run_ending : Ending → RunEnding
run_ending ending.End = ended
run_ending ending.Deadlock = deadlocked
run_ending ending.Stop = halted
run_ending (ending.Trouble trouble) = troubled trouble

-- this is the text of a run of the model
pub record IsTrace (setting : Setting) (text : List ℕ) : Type 0 where
  pub start : Config
  pub is_start : IsStart setting start
  pub events : List Event
  pub last : Config
  pub standing : Standing
  pub reaches : Reaches setting start events last standing
  pub ending : Ending
  pub ends : Ends setting last standing (run_ending ending)
  pub is_text : text ≡ trace_text setting events last.clock ending
