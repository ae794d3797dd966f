-- A run that is chosen, what is told of it, and what has become of it where it was played.
use Rattle.std.specs.Prelude.{◌≡◌, ℕ, List, ◌++◌, Result, IfOk, OnOk}
use Rattle.std.specs.Result.{result_err}
use Rattle.pz_io.specs.Outside.{SinkState}
use Rattle.pz_io.specs.declared.writing.Halt.{Halt}
use Rattle.pz_io.specs.Writing.{Wrote}
use Rattle.pz_rules.specs.declared.action.Action.{Action}
use Rattle.pz_rules.specs.Settings.{Setting}
use Rattle.pz_rules.specs.Configurations.{Config}
use Rattle.pz_rules.specs.Starting.{IsStart}
use Rattle.pz_rules.specs.Runs.{Event, Standing, whole, stopped, Reaches, Ending, troubled}
use Rattle.pz_rules.specs.ChosenRuns.{Policy, IsChosenRun}
use Rattle.pz_term_simulator.specs.Simulations.{Simulation, stands}
use Rattle.pz_run_playing.specs.declared.finale.Finale.{Finale}
use Rattle.pz_run_playing.specs.Endings.{ending_of}
use Rattle.pz_run_playing.specs.RunText.{text_under, run_text}
use Rattle.pz_run_playing.specs.Summaries.{summary_line}
use Rattle.pz_run_playing.specs.Menus.{AreLeft, offers_text}

-- where the last action gave a trouble, the run has ended in it
abbrev pub EndsAs : Standing → Ending → Type 0
EndsAs whole ending = Unit {0}
EndsAs (stopped trouble) ending = ending ≡ troubled trouble

-- the run that a policy chooses, from the start of a model on
pub record ChosenRun (setting : Setting) (policy : Policy) : Type 0 where
  pub start : Config
  pub is_start : IsStart setting start
  pub events : List Event
  -- the configuration at its end, and whether its last action took place
  pub end : Config
  pub standing : Standing
  pub reaches : Reaches setting start events end standing
  pub ending : Ending
  pub ends_as : EndsAs standing ending
  pub is_chosen : IsChosenRun setting policy 0 start events end ending

-- what is told: all of it, one line alone, or all of it and then what there is to choose from
pub data Telling : Type 0 where
  trace summary menu : Telling

pub data Tells (setting : Setting) (events : List Event) (end : Config) (ending : Ending) : Telling → List ℕ → Type 0 where
  of_trace : Tells setting events end ending trace (run_text setting events end.clock ending)
  of_summary : Tells setting events end ending summary (summary_line setting.model events end.clock ending)
  of_menu : (offers : List Action) → AreLeft setting end ending offers
      → Tells setting events end ending menu (run_text setting events end.clock ending ++ offers_text setting.model 0 offers)

-- The run was played: its text was written, with this first line, unless that halted; and if it did not,
-- the finale is its ending, and the simulator stands at its end.
pub record PlaysUnder (setting : Setting) (policy : Policy) (header : List ℕ) (now : Simulation) (before after : SinkState) (result : Result Finale Halt) : Type 0 where
  pub run : ChosenRun setting policy
  pub wrote : Wrote before after (text_under header setting.model run.events run.end.clock run.ending) (result_err result)
  pub finale : IfOk result (λ finale. ending_of finale ≡ run.ending)
  pub arrives : OnOk result (now ≡ stands setting run.end run.standing)

-- the same, with what is told of it in place of that text
pub record Plays (setting : Setting) (policy : Policy) (telling : Telling) (now : Simulation) (before after : SinkState) (result : Result Finale Halt) : Type 0 where
  pub run : ChosenRun setting policy
  pub text : List ℕ
  pub tells : Tells setting run.events run.end run.ending telling text
  pub wrote : Wrote before after text (result_err result)
  pub finale : IfOk result (λ finale. ending_of finale ≡ run.ending)
  pub arrives : OnOk result (now ≡ stands setting run.end run.standing)
